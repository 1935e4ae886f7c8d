use Rattle.cure_points.proofs.comparing.comparing.Goals as goal

pub returns-in-Less : goal.returns-in-Less
returns-in-Less c kind = rw c.in-Less.is (c.order.ensures kind)

pub returns-in-LessOrEqual : goal.returns-in-LessOrEqual
returns-in-LessOrEqual c kind = rw c.in-LessOrEqual.is (c.order-in-LessOrEqual.ensures kind)

pub returns-in-Greater : goal.returns-in-Greater
returns-in-Greater c kind = rw c.in-Greater.is (c.order-in-Greater.ensures kind)

pub returns-in-GreaterOrEqual : goal.returns-in-GreaterOrEqual
returns-in-GreaterOrEqual c kind = rw c.in-GreaterOrEqual.is (c.order-in-GreaterOrEqual.ensures kind)

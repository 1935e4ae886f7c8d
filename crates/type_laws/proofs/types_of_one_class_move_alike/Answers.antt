use Rattle.type_laws.proofs.OneClass.{move-alike}
use Rattle.type_laws.proofs.types_of_one_class_move_alike.Goals as goal

pub returns : goal.returns
returns c table kind t u z w ct cu one = move-alike table w kind t u ct cu one z

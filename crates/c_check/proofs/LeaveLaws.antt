-- What is judged in a scope of its own, which is left at its end.
use Rattle.std.proofs.Common.{◌≡◌, ◌≢◌, Bool, true, false, nat_lt, length, Option, Some, None, refl, ap, sym, subst, ◌∙◌}
use Rattle.std.specs.Prelude.{if◌then◌else◌}
use Rattle.cc_base.specs.declared.fault.Fault.{Fault}
use Rattle.cc_base.specs.declared.fault.Fault.TheVariants.{NoMemory, TooLarge}
use Rattle.cc_base.specs.declared.fault.Limit.TheVariants.{Types}
use Rattle.cc_base.specs.declared.number.TypeId.{TypeId}
use Rattle.cc_base.specs.declared.place.Place.{Place}
use Rattle.c_tree.specs.Tree as tree
use Rattle.c_tree.specs.TypedTree as typed
use Rattle.c_tree.specs.TypedTree.{TypedBlockItems, TypedDeclaration, TypedExpr, TypedStatement}
use Rattle.c_tree.specs.TypedParts.{type_of}
use Rattle.c_typing.specs.Judging as judging
use Rattle.c_typing.specs.Judging.{State}
use Rattle.c_typing.specs.Checking.{checked}
use Rattle.c_typing.specs.Declaring.{entered, left}
use Rattle.c_typing.specs.Scopes.{Level, leaving}
use Rattle.c_typing.specs.Specifying.{in_scopes}
use Rattle.c_unit_typing.specs.DeclarationJudging.{judge_declaration}
use Rattle.c_unit_typing.specs.DefinitionJudging.{body}
use Rattle.c_unit_typing.specs.Linkage.{Linkage}
use Rattle.c_unit_typing.specs.StatementJudging.{dropped, judge_block_items, judge_statement, promotion, switched, tested, tested_or_none, within}
use Rattle.c_unit_typing.specs.Units.{Around, going_on, in_a_loop, in_a_switch}
use Rattle.c_unit_typing.specs.UnitJudging.{UnitState, UnitOutcome, UnitJudging, Gives, Stops, lifted, next, with_linkage}

-- the same outcome with another value
abbrev pub relabel : {A B : Type 0} → A → UnitOutcome B → UnitOutcome A
relabel x (Gives b s) = Gives x s
relabel x (Stops f s) = Stops f s

by_test : {A : Type 0} (at : Place) (x : A) (s : State) (l : Linkage) (b : Bool)
    → with_linkage l (if b then in_scopes leaving x s else judging.Stops (TooLarge at Types) s)
    ≡ relabel x (with_linkage l (if b then in_scopes leaving true s else judging.Stops (TooLarge at Types) s))
by_test at x s l true = refl
by_test at x s l false = refl

-- what leaving a scope hands on makes no difference to it
left_relabelled : {A : Type 0} (at : Place) (x : A) (s : UnitState) → lifted (left at x) s ≡ relabel x (lifted (left at true) s)
unfolding left
left_relabelled at x s = by_test at x (judging.known s.table s.seen) s.linkage (nat_lt 1 (length s.seen.scopes.levels))

left_with : {A : Type 0} (at : Place) (x : A) (s : UnitState) (o : UnitOutcome Bool) → lifted (left at true) s ≡ o → lifted (left at x) s ≡ relabel x o
left_with at x s o h = left_relabelled at x s ∙ ap (relabel x) h

within_goes : {A : Type 0} (at : Place) (go : UnitJudging A) (one : A) (s i m : UnitState) (o : UnitOutcome Bool)
    → lifted entered s ≡ Gives true i → go i ≡ Gives one m → lifted (left at true) m ≡ o → within at go s ≡ relabel one o
unfolding within
within_goes at go one s i m o enters goes leaves = rw enters (rw goes (left_with at one m o leaves))

pub within_gives : {A : Type 0} (at : Place) (go : UnitJudging A) (one : A) (s i m r : UnitState)
    → lifted entered s ≡ Gives true i → go i ≡ Gives one m → lifted (left at true) m ≡ Gives true r → within at go s ≡ Gives one r
within_gives at go one s i m r enters goes leaves = within_goes at go one s i m (Gives true r) enters goes leaves

pub within_stops : {A : Type 0} (at : Place) (go : UnitJudging A) (one : A) (s i m r : UnitState) (f : Fault)
    → lifted entered s ≡ Gives true i → go i ≡ Gives one m → (f ≢ NoMemory → lifted (left at true) m ≡ Stops f r) → f ≢ NoMemory → within at go s ≡ Stops f r
within_stops at go one s i m r f enters goes leaves real = within_goes at go one s i m (Stops f r) enters goes (leaves real)

-- what stops inside stops the whole
pub within_stopped : {A : Type 0} (at : Place) (go : UnitJudging A) (s i m : UnitState) (f : Fault)
    → lifted entered s ≡ Gives true i → (f ≢ NoMemory → go i ≡ Stops f m) → f ≢ NoMemory → within at go s ≡ Stops f m
unfolding within
within_stopped at go s i m f enters stops real = rw enters (rw (stops real) refl)

-- what holds of a condition holds of the same one
pub tried_alike : (at : Place) (e f : TypedExpr) (one : TypedStatement) (s : UnitState) → e ≡ f → tested at e one s ≡ Gives one s → tested at f one s ≡ Gives one s
tried_alike at e f one s same tries = subst (λ (x : TypedExpr). tested at x one s ≡ Gives one s) same tries

-- The statements and the body, once all in them is judged

while_goes : (a b : Around) (at paren : Place) (c : tree.Expr) (body_of : tree.Statement) (test : TypedExpr) (one : TypedStatement) (s i k n : UnitState) (o : UnitOutcome Bool)
    → lifted entered s ≡ Gives true i
    → lifted (checked c) i ≡ Gives test k
    → b ≡ in_a_loop a
    → within at (judge_statement b body_of) k ≡ Gives one n
    → tested at test (typed.While at paren test one) n ≡ Gives (typed.While at paren test one) n → lifted (left at true) n ≡ o
    → judge_statement a (tree.While at paren c body_of) s ≡ relabel (typed.While at paren test one) o
unfolding judge_statement
while_goes a b at paren c body_of test one s i k n o enters tests inside goes tries leaves =
    let again = ap (λ (z : Around). within at (judge_statement z body_of) k) (sym inside) ∙ goes in
    within_goes at _ (typed.While at paren test one) s i n o enters (rw tests (rw again tries)) leaves

pub while_gives : (a b : Around) (at paren : Place) (c : tree.Expr) (body_of : tree.Statement) (test : TypedExpr) (one : TypedStatement) (s i k n r : UnitState)
    → lifted entered s ≡ Gives true i
    → lifted (checked c) i ≡ Gives test k
    → b ≡ in_a_loop a
    → within at (judge_statement b body_of) k ≡ Gives one n
    → tested at test (typed.While at paren test one) n ≡ Gives (typed.While at paren test one) n → lifted (left at true) n ≡ Gives true r
    → judge_statement a (tree.While at paren c body_of) s ≡ Gives (typed.While at paren test one) r
while_gives a b at paren c body_of test one s i k n r enters tests inside goes tries leaves = while_goes a b at paren c body_of test one s i k n (Gives true r) enters tests inside goes tries leaves

pub while_stops : (a b : Around) (at paren : Place) (c : tree.Expr) (body_of : tree.Statement) (test : TypedExpr) (one : TypedStatement) (s i k n r : UnitState) (f : Fault)
    → lifted entered s ≡ Gives true i
    → lifted (checked c) i ≡ Gives test k
    → b ≡ in_a_loop a
    → within at (judge_statement b body_of) k ≡ Gives one n
    → tested at test (typed.While at paren test one) n ≡ Gives (typed.While at paren test one) n → (f ≢ NoMemory → lifted (left at true) n ≡ Stops f r)
    → f ≢ NoMemory → judge_statement a (tree.While at paren c body_of) s ≡ Stops f r
while_stops a b at paren c body_of test one s i k n r f enters tests inside goes tries leaves real = while_goes a b at paren c body_of test one s i k n (Stops f r) enters tests inside goes tries (leaves real)

do_goes : (a b : Around) (at paren : Place) (c : tree.Expr) (body_of : tree.Statement) (test : TypedExpr) (one : TypedStatement) (s i k n : UnitState) (o : UnitOutcome Bool)
    → lifted entered s ≡ Gives true i
    → b ≡ in_a_loop a
    → within at (judge_statement b body_of) i ≡ Gives one k
    → lifted (checked c) k ≡ Gives test n
    → tested at test (typed.DoWhile one at paren test) n ≡ Gives (typed.DoWhile one at paren test) n → lifted (left at true) n ≡ o
    → judge_statement a (tree.DoWhile body_of at paren c) s ≡ relabel (typed.DoWhile one at paren test) o
unfolding judge_statement
do_goes a b at paren c body_of test one s i k n o enters inside goes tests tries leaves =
    let again = ap (λ (z : Around). within at (judge_statement z body_of) i) (sym inside) ∙ goes in
    within_goes at _ (typed.DoWhile one at paren test) s i n o enters (rw again (rw tests tries)) leaves

pub do_gives : (a b : Around) (at paren : Place) (c : tree.Expr) (body_of : tree.Statement) (test : TypedExpr) (one : TypedStatement) (s i k n r : UnitState)
    → lifted entered s ≡ Gives true i
    → b ≡ in_a_loop a
    → within at (judge_statement b body_of) i ≡ Gives one k
    → lifted (checked c) k ≡ Gives test n
    → tested at test (typed.DoWhile one at paren test) n ≡ Gives (typed.DoWhile one at paren test) n → lifted (left at true) n ≡ Gives true r
    → judge_statement a (tree.DoWhile body_of at paren c) s ≡ Gives (typed.DoWhile one at paren test) r
do_gives a b at paren c body_of test one s i k n r enters inside goes tests tries leaves = do_goes a b at paren c body_of test one s i k n (Gives true r) enters inside goes tests tries leaves

pub do_stops : (a b : Around) (at paren : Place) (c : tree.Expr) (body_of : tree.Statement) (test : TypedExpr) (one : TypedStatement) (s i k n r : UnitState) (f : Fault)
    → lifted entered s ≡ Gives true i
    → b ≡ in_a_loop a
    → within at (judge_statement b body_of) i ≡ Gives one k
    → lifted (checked c) k ≡ Gives test n
    → tested at test (typed.DoWhile one at paren test) n ≡ Gives (typed.DoWhile one at paren test) n → (f ≢ NoMemory → lifted (left at true) n ≡ Stops f r)
    → f ≢ NoMemory → judge_statement a (tree.DoWhile body_of at paren c) s ≡ Stops f r
do_stops a b at paren c body_of test one s i k n r f enters inside goes tests tries leaves real = do_goes a b at paren c body_of test one s i k n (Stops f r) enters inside goes tests tries (leaves real)

if_goes : (a : Around) (at paren : Place) (c : tree.Expr) (body_of : tree.Statement) (test : TypedExpr) (one : TypedStatement) (s i k n : UnitState) (o : UnitOutcome Bool)
    → lifted entered s ≡ Gives true i
    → lifted (checked c) i ≡ Gives test k
    → within at (judge_statement a body_of) k ≡ Gives one n
    → tested at test (typed.If at paren test one) n ≡ Gives (typed.If at paren test one) n → lifted (left at true) n ≡ o
    → judge_statement a (tree.If at paren c body_of) s ≡ relabel (typed.If at paren test one) o
unfolding judge_statement
if_goes a at paren c body_of test one s i k n o enters tests goes tries leaves =
    within_goes at _ (typed.If at paren test one) s i n o enters (rw tests (rw goes tries)) leaves

pub if_gives : (a : Around) (at paren : Place) (c : tree.Expr) (body_of : tree.Statement) (test : TypedExpr) (one : TypedStatement) (s i k n r : UnitState)
    → lifted entered s ≡ Gives true i
    → lifted (checked c) i ≡ Gives test k
    → within at (judge_statement a body_of) k ≡ Gives one n
    → tested at test (typed.If at paren test one) n ≡ Gives (typed.If at paren test one) n → lifted (left at true) n ≡ Gives true r
    → judge_statement a (tree.If at paren c body_of) s ≡ Gives (typed.If at paren test one) r
if_gives a at paren c body_of test one s i k n r enters tests goes tries leaves = if_goes a at paren c body_of test one s i k n (Gives true r) enters tests goes tries leaves

pub if_stops : (a : Around) (at paren : Place) (c : tree.Expr) (body_of : tree.Statement) (test : TypedExpr) (one : TypedStatement) (s i k n r : UnitState) (f : Fault)
    → lifted entered s ≡ Gives true i
    → lifted (checked c) i ≡ Gives test k
    → within at (judge_statement a body_of) k ≡ Gives one n
    → tested at test (typed.If at paren test one) n ≡ Gives (typed.If at paren test one) n → (f ≢ NoMemory → lifted (left at true) n ≡ Stops f r)
    → f ≢ NoMemory → judge_statement a (tree.If at paren c body_of) s ≡ Stops f r
if_stops a at paren c body_of test one s i k n r f enters tests goes tries leaves real = if_goes a at paren c body_of test one s i k n (Stops f r) enters tests goes tries (leaves real)

choice_goes : (a : Around) (at paren : Place) (c : tree.Expr) (body_of rest_of : tree.Statement) (test : TypedExpr) (one two : TypedStatement) (s i k m n : UnitState) (o : UnitOutcome Bool)
    → lifted entered s ≡ Gives true i
    → lifted (checked c) i ≡ Gives test k
    → within at (judge_statement a body_of) k ≡ Gives one m
    → within at (judge_statement a rest_of) m ≡ Gives two n
    → tested at test (typed.IfElse at paren test one two) n ≡ Gives (typed.IfElse at paren test one two) n → lifted (left at true) n ≡ o
    → judge_statement a (tree.IfElse at paren c body_of rest_of) s ≡ relabel (typed.IfElse at paren test one two) o
unfolding judge_statement
choice_goes a at paren c body_of rest_of test one two s i k m n o enters tests goes rests tries leaves =
    within_goes at _ (typed.IfElse at paren test one two) s i n o enters (rw tests (rw goes (rw rests tries))) leaves

pub choice_gives : (a : Around) (at paren : Place) (c : tree.Expr) (body_of rest_of : tree.Statement) (test : TypedExpr) (one two : TypedStatement) (s i k m n r : UnitState)
    → lifted entered s ≡ Gives true i
    → lifted (checked c) i ≡ Gives test k
    → within at (judge_statement a body_of) k ≡ Gives one m
    → within at (judge_statement a rest_of) m ≡ Gives two n
    → tested at test (typed.IfElse at paren test one two) n ≡ Gives (typed.IfElse at paren test one two) n → lifted (left at true) n ≡ Gives true r
    → judge_statement a (tree.IfElse at paren c body_of rest_of) s ≡ Gives (typed.IfElse at paren test one two) r
choice_gives a at paren c body_of rest_of test one two s i k m n r enters tests goes rests tries leaves = choice_goes a at paren c body_of rest_of test one two s i k m n (Gives true r) enters tests goes rests tries leaves

pub choice_stops : (a : Around) (at paren : Place) (c : tree.Expr) (body_of rest_of : tree.Statement) (test : TypedExpr) (one two : TypedStatement) (s i k m n r : UnitState) (f : Fault)
    → lifted entered s ≡ Gives true i
    → lifted (checked c) i ≡ Gives test k
    → within at (judge_statement a body_of) k ≡ Gives one m
    → within at (judge_statement a rest_of) m ≡ Gives two n
    → tested at test (typed.IfElse at paren test one two) n ≡ Gives (typed.IfElse at paren test one two) n → (f ≢ NoMemory → lifted (left at true) n ≡ Stops f r)
    → f ≢ NoMemory → judge_statement a (tree.IfElse at paren c body_of rest_of) s ≡ Stops f r
choice_stops a at paren c body_of rest_of test one two s i k m n r f enters tests goes rests tries leaves real = choice_goes a at paren c body_of rest_of test one two s i k m n (Stops f r) enters tests goes rests tries (leaves real)

loop_goes : (a b : Around) (at paren : Place) (first test step : Option tree.Expr) (body_of : tree.Statement) (before c after : Option TypedExpr) (one : TypedStatement) (s i k l m n : UnitState) (o : UnitOutcome Bool)
    → lifted entered s ≡ Gives true i
    → dropped first i ≡ Gives before k
    → dropped test k ≡ Gives c l
    → dropped step l ≡ Gives after m
    → b ≡ in_a_loop a
    → within at (judge_statement b body_of) m ≡ Gives one n
    → tested_or_none at c (typed.For at paren before c after one) n ≡ Gives (typed.For at paren before c after one) n → lifted (left at true) n ≡ o
    → judge_statement a (tree.For at paren first test step body_of) s ≡ relabel (typed.For at paren before c after one) o
unfolding judge_statement
loop_goes a b at paren first test step body_of before c after one s i k l m n o enters firsts tests steps inside goes tries leaves =
    let again = ap (λ (z : Around). within at (judge_statement z body_of) m) (sym inside) ∙ goes in
    within_goes at _ (typed.For at paren before c after one) s i n o enters (rw firsts (rw tests (rw steps (rw again tries)))) leaves

pub loop_gives : (a b : Around) (at paren : Place) (first test step : Option tree.Expr) (body_of : tree.Statement) (before c after : Option TypedExpr) (one : TypedStatement) (s i k l m n r : UnitState)
    → lifted entered s ≡ Gives true i
    → dropped first i ≡ Gives before k
    → dropped test k ≡ Gives c l
    → dropped step l ≡ Gives after m
    → b ≡ in_a_loop a
    → within at (judge_statement b body_of) m ≡ Gives one n
    → tested_or_none at c (typed.For at paren before c after one) n ≡ Gives (typed.For at paren before c after one) n → lifted (left at true) n ≡ Gives true r
    → judge_statement a (tree.For at paren first test step body_of) s ≡ Gives (typed.For at paren before c after one) r
loop_gives a b at paren first test step body_of before c after one s i k l m n r enters firsts tests steps inside goes tries leaves = loop_goes a b at paren first test step body_of before c after one s i k l m n (Gives true r) enters firsts tests steps inside goes tries leaves

pub loop_stops : (a b : Around) (at paren : Place) (first test step : Option tree.Expr) (body_of : tree.Statement) (before c after : Option TypedExpr) (one : TypedStatement) (s i k l m n r : UnitState) (f : Fault)
    → lifted entered s ≡ Gives true i
    → dropped first i ≡ Gives before k
    → dropped test k ≡ Gives c l
    → dropped step l ≡ Gives after m
    → b ≡ in_a_loop a
    → within at (judge_statement b body_of) m ≡ Gives one n
    → tested_or_none at c (typed.For at paren before c after one) n ≡ Gives (typed.For at paren before c after one) n → (f ≢ NoMemory → lifted (left at true) n ≡ Stops f r)
    → f ≢ NoMemory → judge_statement a (tree.For at paren first test step body_of) s ≡ Stops f r
loop_stops a b at paren first test step body_of before c after one s i k l m n r f enters firsts tests steps inside goes tries leaves real = loop_goes a b at paren first test step body_of before c after one s i k l m n (Stops f r) enters firsts tests steps inside goes tries (leaves real)

for_goes : (a b : Around) (at paren : Place) (d : tree.Declaration) (test step : Option tree.Expr) (body_of : tree.Statement) (before : TypedDeclaration) (c after : Option TypedExpr) (one : TypedStatement) (s i k l m n : UnitState) (o : UnitOutcome Bool)
    → lifted entered s ≡ Gives true i
    → judge_declaration false d i ≡ Gives before k
    → dropped test k ≡ Gives c l
    → dropped step l ≡ Gives after m
    → b ≡ in_a_loop a
    → within at (judge_statement b body_of) m ≡ Gives one n
    → tested_or_none at c (typed.ForDeclaration at paren before c after one) n ≡ Gives (typed.ForDeclaration at paren before c after one) n → lifted (left at true) n ≡ o
    → judge_statement a (tree.ForDeclaration at paren d test step body_of) s ≡ relabel (typed.ForDeclaration at paren before c after one) o
unfolding judge_statement
for_goes a b at paren d test step body_of before c after one s i k l m n o enters declares tests steps inside goes tries leaves =
    let again = ap (λ (z : Around). within at (judge_statement z body_of) m) (sym inside) ∙ goes in
    within_goes at _ (typed.ForDeclaration at paren before c after one) s i n o enters (rw declares (rw tests (rw steps (rw again tries)))) leaves

pub for_gives : (a b : Around) (at paren : Place) (d : tree.Declaration) (test step : Option tree.Expr) (body_of : tree.Statement) (before : TypedDeclaration) (c after : Option TypedExpr) (one : TypedStatement) (s i k l m n r : UnitState)
    → lifted entered s ≡ Gives true i
    → judge_declaration false d i ≡ Gives before k
    → dropped test k ≡ Gives c l
    → dropped step l ≡ Gives after m
    → b ≡ in_a_loop a
    → within at (judge_statement b body_of) m ≡ Gives one n
    → tested_or_none at c (typed.ForDeclaration at paren before c after one) n ≡ Gives (typed.ForDeclaration at paren before c after one) n → lifted (left at true) n ≡ Gives true r
    → judge_statement a (tree.ForDeclaration at paren d test step body_of) s ≡ Gives (typed.ForDeclaration at paren before c after one) r
for_gives a b at paren d test step body_of before c after one s i k l m n r enters declares tests steps inside goes tries leaves = for_goes a b at paren d test step body_of before c after one s i k l m n (Gives true r) enters declares tests steps inside goes tries leaves

pub for_stops : (a b : Around) (at paren : Place) (d : tree.Declaration) (test step : Option tree.Expr) (body_of : tree.Statement) (before : TypedDeclaration) (c after : Option TypedExpr) (one : TypedStatement) (s i k l m n r : UnitState) (f : Fault)
    → lifted entered s ≡ Gives true i
    → judge_declaration false d i ≡ Gives before k
    → dropped test k ≡ Gives c l
    → dropped step l ≡ Gives after m
    → b ≡ in_a_loop a
    → within at (judge_statement b body_of) m ≡ Gives one n
    → tested_or_none at c (typed.ForDeclaration at paren before c after one) n ≡ Gives (typed.ForDeclaration at paren before c after one) n → (f ≢ NoMemory → lifted (left at true) n ≡ Stops f r)
    → f ≢ NoMemory → judge_statement a (tree.ForDeclaration at paren d test step body_of) s ≡ Stops f r
for_stops a b at paren d test step body_of before c after one s i k l m n r f enters declares tests steps inside goes tries leaves real = for_goes a b at paren d test step body_of before c after one s i k l m n (Stops f r) enters declares tests steps inside goes tries (leaves real)

switch_goes : (a b : Around) (at paren : Place) (e : tree.Expr) (brace : Place) (items : tree.BlockItems) (c on : TypedExpr) (t : TypeId) (list : TypedBlockItems) (s i k m : UnitState) (o : UnitOutcome Bool)
    → lifted entered s ≡ Gives true i
    → lifted (checked e) i ≡ Gives c k
    → promotion at c k ≡ Gives on k
    → b ≡ in_a_switch a
    → t ≡ type_of on
    → within brace (judge_block_items b (Some t) items) k ≡ Gives list m
    → switched at c (typed.Switch at paren on brace list) m ≡ Gives (typed.Switch at paren on brace list) m → lifted (left at true) m ≡ o
    → judge_statement a (tree.Switch at paren e brace items) s ≡ relabel (typed.Switch at paren on brace list) o
unfolding judge_statement
switch_goes a b at paren e brace items c on t list s i k m o enters values promotes inside type lists tries leaves =
    let all = ap (λ (z : Around). within brace (judge_block_items z (Some (type_of on)) items) k) (sym inside)
    ∙ ap (λ (u : TypeId). within brace (judge_block_items b (Some u) items) k) (sym type) ∙ lists in
    within_goes at _ (typed.Switch at paren on brace list) s i m o enters (rw values (rw promotes (rw all tries))) leaves

pub switch_gives : (a b : Around) (at paren : Place) (e : tree.Expr) (brace : Place) (items : tree.BlockItems) (c on : TypedExpr) (t : TypeId) (list : TypedBlockItems) (s i k m r : UnitState)
    → lifted entered s ≡ Gives true i
    → lifted (checked e) i ≡ Gives c k
    → promotion at c k ≡ Gives on k
    → b ≡ in_a_switch a
    → t ≡ type_of on
    → within brace (judge_block_items b (Some t) items) k ≡ Gives list m
    → switched at c (typed.Switch at paren on brace list) m ≡ Gives (typed.Switch at paren on brace list) m → lifted (left at true) m ≡ Gives true r
    → judge_statement a (tree.Switch at paren e brace items) s ≡ Gives (typed.Switch at paren on brace list) r
switch_gives a b at paren e brace items c on t list s i k m r enters values promotes inside type lists tries leaves = switch_goes a b at paren e brace items c on t list s i k m (Gives true r) enters values promotes inside type lists tries leaves

pub switch_stops : (a b : Around) (at paren : Place) (e : tree.Expr) (brace : Place) (items : tree.BlockItems) (c on : TypedExpr) (t : TypeId) (list : TypedBlockItems) (s i k m r : UnitState) (f : Fault)
    → lifted entered s ≡ Gives true i
    → lifted (checked e) i ≡ Gives c k
    → promotion at c k ≡ Gives on k
    → b ≡ in_a_switch a
    → t ≡ type_of on
    → within brace (judge_block_items b (Some t) items) k ≡ Gives list m
    → switched at c (typed.Switch at paren on brace list) m ≡ Gives (typed.Switch at paren on brace list) m → (f ≢ NoMemory → lifted (left at true) m ≡ Stops f r)
    → f ≢ NoMemory → judge_statement a (tree.Switch at paren e brace items) s ≡ Stops f r
switch_stops a b at paren e brace items c on t list s i k m r f enters values promotes inside type lists tries leaves real = switch_goes a b at paren e brace items c on t list s i k m (Stops f r) enters values promotes inside type lists tries (leaves real)

block_goes : (a : Around) (brace : Place) (items : tree.BlockItems) (list : TypedBlockItems) (s i m : UnitState) (o : UnitOutcome Bool)
    → lifted entered s ≡ Gives true i → judge_block_items a None items i ≡ Gives list m → lifted (left brace true) m ≡ o
    → judge_statement a (tree.Block brace items) s ≡ relabel (typed.Block brace list) o
unfolding judge_statement
block_goes a brace items list s i m o enters lists leaves = within_goes brace _ (typed.Block brace list) s i m o enters (rw lists refl) leaves

pub block_gives : (a : Around) (brace : Place) (items : tree.BlockItems) (list : TypedBlockItems) (s i m r : UnitState)
    → lifted entered s ≡ Gives true i → judge_block_items a None items i ≡ Gives list m → lifted (left brace true) m ≡ Gives true r
    → judge_statement a (tree.Block brace items) s ≡ Gives (typed.Block brace list) r
block_gives a brace items list s i m r enters lists leaves = block_goes a brace items list s i m (Gives true r) enters lists leaves

pub block_stops : (a : Around) (brace : Place) (items : tree.BlockItems) (list : TypedBlockItems) (s i m r : UnitState) (f : Fault)
    → lifted entered s ≡ Gives true i → judge_block_items a None items i ≡ Gives list m → (f ≢ NoMemory → lifted (left brace true) m ≡ Stops f r)
    → f ≢ NoMemory → judge_statement a (tree.Block brace items) s ≡ Stops f r
block_stops a brace items list s i m r f enters lists leaves real = block_goes a brace items list s i m (Stops f r) enters lists (leaves real)

body_goes : (brace : Place) (to : TypeId) (level : Level) (items : tree.BlockItems) (list : TypedBlockItems) (s i m : UnitState) (o : UnitOutcome Bool)
    → lifted (in_scopes (going_on level) true) s ≡ Gives true i → judge_block_items (record { result = to; in_loop = false; breakable = false }) None items i ≡ Gives list m
    → lifted (left brace true) m ≡ o → body brace (Some to) level items s ≡ relabel list o
unfolding body
body_goes brace to level items list s i m o goes lists leaves =
    let inside : Around = record { result = to; in_loop = false; breakable = false } in
    ap (λ (x : UnitOutcome Bool). next x (λ b. λ t. next (judge_block_items inside None items t) (λ made. lifted (left brace made)))) goes
    ∙ ap (λ (x : UnitOutcome TypedBlockItems). next x (λ made. lifted (left brace made))) lists
    ∙ left_with brace list m o leaves

pub body_gives : (brace : Place) (to : TypeId) (level : Level) (items : tree.BlockItems) (list : TypedBlockItems) (s i m r : UnitState)
    → lifted (in_scopes (going_on level) true) s ≡ Gives true i → judge_block_items (record { result = to; in_loop = false; breakable = false }) None items i ≡ Gives list m
    → lifted (left brace true) m ≡ Gives true r → body brace (Some to) level items s ≡ Gives list r
body_gives brace to level items list s i m r goes lists leaves = body_goes brace to level items list s i m (Gives true r) goes lists leaves

pub body_stops : (brace : Place) (to : TypeId) (level : Level) (items : tree.BlockItems) (list : TypedBlockItems) (s i m r : UnitState) (f : Fault)
    → lifted (in_scopes (going_on level) true) s ≡ Gives true i → judge_block_items (record { result = to; in_loop = false; breakable = false }) None items i ≡ Gives list m
    → (f ≢ NoMemory → lifted (left brace true) m ≡ Stops f r) → f ≢ NoMemory → body brace (Some to) level items s ≡ Stops f r
body_stops brace to level items list s i m r f goes lists leaves real = body_goes brace to level items list s i m (Stops f r) goes lists (leaves real)

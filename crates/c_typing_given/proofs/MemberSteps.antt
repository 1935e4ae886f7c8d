-- What judging members is made of, and the types that members may have.
use Rattle.std.proofs.Common.{◌≡◌, List, [], ◌∷◌, ◌++◌, Option, Some, None, refl, ap, ◌∙◌}
use Rattle.std.specs.List.{All}
use Rattle.std.proofs.lemmas.List.Elements.{All-nil, All-cons, All-head, All-tail}
use Rattle.cc_base.specs.declared.place.Place.{Place}
use Rattle.cc_base.specs.declared.number.TypeId.{TypeId}
use Rattle.c_types.specs.Table.{Table, IsType, IsComplete, is_complete}
use Rattle.c_tree.specs.declared.leaf.Identifier.{Identifier}
use Rattle.c_tree.specs.declared.typed_word.Home.{Home}
use Rattle.c_tree.specs.declared.typed_word.Home.TheVariants as home
use Rattle.c_tree.specs.Places.{nowhere}
use Rattle.c_tree.specs.Tree as tree
use Rattle.c_tree.specs.TypedTree as typed
use Rattle.c_tree.specs.TypedTree.{TypedForm, TypedSpecifiers, TypedSpecifierList, TypedMembers, TypedMemberDeclarators}
use Rattle.c_typing.specs.declared.naming.Naming.TheVariants as naming
use Rattle.c_typing.specs.Declarators.{Written, declarator_names, member_names}
use Rattle.c_typing.specs.Declaring.{declarator_name, form_makes, member_type, member_named}
use Rattle.c_typing.specs.Extensions.{IsExtended}
use Rattle.c_typing.specs.Judging.{State, Outcome, Judging, Gives, ◌>>=◌, pure}
use Rattle.c_typing.specs.Refusals.{name_place, has_name}
use Rattle.c_typing.specs.Scopes.{Name}
use Rattle.c_typing.specs.Specifying.{specified, obeying}
use Rattle.c_typing.specs.Tests.{first_broken, member_name_tests, member_type_tests}
use Rattle.c_typing.specs.Walks.{listed, judge_list, judge_form, judge_members, judge_member_declarators}
use Rattle.c_typing_laws.specs.Judged.{IsHomeOf}
use Rattle.c_typing_laws.proofs.ExtensionLaws.{still_in}
use Rattle.c_typing_given.proofs.Steps.{then-is, obeying-is}

-- What judging is made of

pub judges-no-declarator : (base : TypeId) (names : List Name) (s : State) → judge_member_declarators base names tree.NoDeclarator s ≡ Gives typed.NoDeclarator s
unfolding judge_member_declarators
judges-no-declarator base names s = refl

abbrev pub form-place : tree.Declarator → Place
form-place d = name_place (declarator_name d) nowhere

pub judges-declarator : (base : TypeId) (names : List Name) (all : tree.MemberDeclarators) (d : tree.Declarator) (row : TypedMemberDeclarators) (form : TypedForm) (s j k : State)
    (o : Outcome TypedMemberDeclarators) → judge_member_declarators base names all s ≡ Gives row j → judge_form naming.None (form-place d) d j ≡ Gives form k
    → member_named (names ++ declarator_names row) row form base (declarator_name d) k ≡ o → judge_member_declarators base names (tree.AndDeclarator all d) s ≡ o
unfolding judge_member_declarators
judges-declarator base names all d row form s j k o h g f =
    then-is (judge_member_declarators base names all)
    (λ v. judge_form naming.None (form-place d) d >>= (λ x. member_named (names ++ declarator_names v) v x base (declarator_name d))) row s j o h
    (then-is (judge_form naming.None (form-place d) d) (λ x. member_named (names ++ declarator_names row) row x base (declarator_name d)) form j k o g f)

pub member-is : (names : List Name) (row : TypedMemberDeclarators) (form : TypedForm) (base t : TypeId) (name : Identifier) (s r : State)
    → first_broken (member_name_tests (has_name names (Some name)) name.place) ≡ None → form_makes name.place Written form base s ≡ Gives t r
    → first_broken (member_type_tests r.table r.seen.scopes t name.place) ≡ None
    → member_named names row form base (Some name) s ≡ Gives (typed.AndDeclarator row (typed.Declares form t)) r
unfolding member_named member_type
member-is names row form base t name s r pass g tested =
    let check : TypeId → Judging TypeId = λ u. obeying (λ (q : State). member_type_tests q.table q.seen.scopes u name.place) (pure u) in
    let o : Outcome TypedMemberDeclarators = Gives (typed.AndDeclarator row (typed.Declares form t)) r in
    obeying-is (λ (q : State). member_name_tests (has_name names (Some name)) name.place)
    ((form_makes name.place Written form base >>= check) >>= (λ u. pure (typed.AndDeclarator row (typed.Declares form u)))) s o pass
    (then-is (form_makes name.place Written form base >>= check) (λ u. pure (typed.AndDeclarator row (typed.Declares form u))) t s r o
    (then-is (form_makes name.place Written form base) check t s r (Gives t r) g
    (obeying-is (λ (q : State). member_type_tests q.table q.seen.scopes t name.place) (pure t) r (Gives t r) tested refl)) refl)

pub judges-no-member : (s : State) → judge_members tree.NoMember s ≡ Gives typed.NoMember s
unfolding judge_members
judges-no-member s = refl

pub judges-member : (all : tree.Members) (specifiers : tree.Specifiers) (declarators : tree.MemberDeclarators) (rows : TypedMembers) (own : TypedSpecifierList)
    (row : TypedMemberDeclarators) (s j k r : State) → judge_members all s ≡ Gives rows j → judge_list specifiers j ≡ Gives own k
    → judge_member_declarators (listed own) (member_names rows) declarators k ≡ Gives row r
    → judge_members (tree.AndMember all specifiers declarators) s ≡ Gives (typed.AndMember rows (specified own) row) r
unfolding judge_members
judges-member all specifiers declarators rows own row s j k r h g f =
    let o : Outcome TypedMembers = Gives (typed.AndMember rows (specified own) row) r in
    then-is (judge_members all)
    (λ a. judge_list specifiers >>= (λ l. judge_member_declarators (listed l) (member_names a) declarators >>= (λ w. pure (typed.AndMember a (specified l) w)))) rows s j o h
    (then-is (judge_list specifiers) (λ l. judge_member_declarators (listed l) (member_names rows) declarators >>= (λ w. pure (typed.AndMember rows (specified l) w))) own j k o g
    (then-is (judge_member_declarators (listed own) (member_names rows) declarators) (λ w. pure (typed.AndMember rows (specified own) w)) row k r o f refl))

-- Types of members

-- a type that a member may have
abbrev pub IsWhole : Table → TypeId → Type 0
IsWhole J t = IsType J t × IsComplete J t

pub whole-later : (J N : Table) → IsExtended J N → (ts : List TypeId) → All (IsWhole J) ts → All (IsWhole N) ts
whole-later J N x [] h = All-nil (IsWhole N)
whole-later J N x (t ∷ ts) h =
    let own = All-head (IsWhole J) t ts h in
    All-cons (IsWhole N) t ts (still_in J N x t own.0, ap is_complete (x.complete t own.1) ∙ own.1) (whole-later J N x ts (All-tail (IsWhole J) t ts h))

pub no-home : (o : Option Identifier) (h : Home) → h ≡ home.None → IsHomeOf naming.None o h
no-home None h q = q
no-home (Some name) h q = q

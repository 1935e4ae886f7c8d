-- Members of structs and unions are given, row by row, and each is of a complete type.
use Rattle.std.proofs.Common.{◌≡◌, ◌≤◌, ℕ, max, true, not, List, [], ◌∷◌, ◌++◌, length, Option, Some, None, append_assoc, refl, ap, sym, subst, ◌∙◌}
use Rattle.std.specs.List.{All}
use Rattle.std.proofs.lemmas.List.Elements.{All-nil, All-cons, All-append}
use Rattle.cc_base.specs.declared.fault.Rule.TheVariants as rule
use Rattle.cc_base.specs.declared.number.TypeId.{TypeId}
use Rattle.c_types.specs.declared.shape.TypeShape.TheVariants.{Function}
use Rattle.c_types.specs.Table.{Table, HasShape, IsType}
use Rattle.c_tree.specs.declared.leaf.Identifier.{Identifier}
use Rattle.c_tree.specs.declared.typed_word.Home.TheVariants as home
use Rattle.c_tree.specs.Erasure.{erased_specifiers}
use Rattle.c_tree.specs.Tree as tree
use Rattle.c_tree.specs.TypedTree as typed
use Rattle.c_tree.specs.TypedTree.{TypedForm, TypedSpecifiers, TypedSpecifierList, TypedMembers, TypedMemberDeclarators}
use Rattle.c_tree.specs.TypedParts.{Made, made_by_form, made_by_specifiers, made_by_specifier_list, made_by_members, made_by_member_declarators, home_of_form, name_of_form, specified_type}
use Rattle.c_typing.specs.declared.naming.Naming.TheVariants as naming
use Rattle.c_typing.specs.Declarators.{Written, FormMakes, declarator_names, declarator_types, member_names, member_types, counted, named_by_list, name_bytes}
use Rattle.c_typing.specs.Declaring.{declarator_name, form_makes, member_named}
use Rattle.c_typing.specs.Extensions.{IsExtended}
use Rattle.c_typing.specs.Judging.{State, Outcome, Gives}
use Rattle.c_typing.specs.Refusals.{has_name}
use Rattle.c_typing.specs.Scopes.{Name, Scopes, Seen, is_complete_at}
use Rattle.c_typing.specs.Settled.{IsBasic}
use Rattle.c_typing.specs.Specifying.{specified, listed_type}
use Rattle.c_typing.specs.Typing.{AreSpecifiers, AreMemberDeclarators, AreDistinct}
use Rattle.c_typing.specs.Walks.{listed, judge_list, judge_form, judge_members, judge_member_declarators}
use Rattle.c_typing_laws.proofs.ExtensionLaws.{still_in}
use Rattle.c_typing_laws.proofs.JudgedForms.{form-made}
use Rattle.c_typing_laws.proofs.JudgedLists.{list-typed}
use Rattle.c_typing_laws.proofs.JudgedTrees.{specifiers-judged}
use Rattle.c_typing_laws.proofs.KeptTrees.{specifiers-kept}
use Rattle.c_typing_unique.specs.Points.{Point, IsReadAs}
use Rattle.c_typing_unique.proofs.DeclaratorSteps.{no_type, IsFormRead, form-name}
use Rattle.c_typing_unique.proofs.FormLaws.{of-type-one}
use Rattle.c_typing_unique.proofs.MemberSteps.{IsRowRead, is_row, are_members}
use Rattle.c_typing_unique.proofs.SpecifierSteps.{AreListRead, AreMembersRead}
use Rattle.c_typing_exact.proofs.SameParts.{distinct}
use Rattle.c_typing_exact.proofs.Unbroken.{passes_one, off}
use Rattle.c_rules_alike.proofs.TypesAlike.{complete-over}
use Rattle.c_unit_typing.specs.Holding.{specifiers_holds, declarator_holds, members_holds, member_declarators_holds}
use Rattle.c_type_order.specs.TypesUsed.{made_in, form_steps, Use, AreUses, OfMember, types_of, used_by_form, used_by_specifier_list, used_by_members, used_by_member_declarators}
use Rattle.c_typing_given.specs.Given.{point_at, IsHere, IsReached, IsGivenAs}
use Rattle.c_typing_given.specs.Spending.{HasRoom}
use Rattle.c_typing_given.proofs.CallsGiven.{reached-none}
use Rattle.c_typing_given.proofs.Constructing.{reached-both, uses-at, max-left, max-right}
use Rattle.c_typing_given.proofs.FormsGiven.{IsFormGiven}
use Rattle.c_typing_given.proofs.MakesGiven.{IsMakeGiven}
use Rattle.c_typing_given.proofs.MakesGiven as making
use Rattle.c_typing_given.proofs.MemberNames.{distinct-prefix, last-new}
use Rattle.c_typing_given.proofs.SpecifiersGiven.{AreListGiven}
use Rattle.c_typing_given.proofs.Spent.{room-first, room-then}
use Rattle.c_typing_given.proofs.TypeNamesGiven.{declared-room, declared-spent, reached-make}
use Rattle.c_typing_given.proofs.ValuesGiven.{uses-first}
use Rattle.c_typing_given.proofs.MemberSteps.{judges-no-declarator, form-place, judges-declarator, member-is, judges-no-member, judges-member, IsWhole, whole-later, no-home}

module _ (T : Table) (basic : IsBasic T) (few : (t : TypeId) (parameters : List TypeId) (result : TypeId) → HasShape T t (Function parameters result) → length parameters ≤ 127) where
  -- what is given, and its members' types are complete
  pub record IsBodyGiven {A : Type 0} (made : List Made) (run : Outcome A) (a : A) (types : List TypeId) (s : State) (b : Point) (count : ℕ) : Type 0 where
    pub given : IsGivenAs T made run a s b count
    pub whole : All (IsWhole given.after.table) types

  abbrev pub IsRowGiven : tree.MemberDeclarators → Type 0
  IsRowGiven xs =
      (base : TypeId) (names : List Name) (row : TypedMemberDeclarators) (s : State) (b : Point) (count : ℕ) → IsHere T s → IsType s.table base
      → IsRowRead T (distinct T basic) base xs row (point_at s) b → AreDistinct (names ++ declarator_names row)
      → AreUses (used_by_member_declarators T row) (length s.table) count → HasRoom T (made_by_member_declarators row) s → member_declarators_holds xs ≤ 256
      → IsBodyGiven (made_by_member_declarators row) (judge_member_declarators base names xs s) row (declarator_types row) s b count

  abbrev pub AreMembersGiven : tree.Members → Type 0
  AreMembersGiven xs =
      (rows : TypedMembers) (s : State) (b : Point) (count : ℕ) → IsHere T s → AreMembersRead T (distinct T basic) xs rows (point_at s) b → AreDistinct (member_names rows)
      → AreUses (used_by_members T rows) (length s.table) count → HasRoom T (made_by_members rows) s → members_holds xs ≤ 256
      → IsBodyGiven (made_by_members rows) (judge_members xs s) rows (member_types rows) s b count

  pub no-declarator-given : IsRowGiven tree.NoDeclarator
  no-declarator-given base names row s b count here there h new uses room holds =
      let i = is_row T (distinct T basic) base tree.NoDeclarator row (point_at s) b h in
      subst (λ (y : TypedMemberDeclarators). IsBodyGiven (made_by_member_declarators y) (judge_member_declarators base names tree.NoDeclarator s) y (declarator_types y) s b count) (sym i.0)
      (record {
        given = record {
          after = s;
          gives = judges-no-declarator base names s;
          reached = reached-none T basic s b count here i.1 (subst (λ (y : TypedMemberDeclarators). AreUses (used_by_member_declarators T y) (length s.table) count) i.0 uses);
        };
        whole = All-nil (IsWhole s.table);
      })

  -- the type of a member, after its declarator
  record IsMemberGiven (names : List Name) (row : TypedMemberDeclarators) (form : TypedForm) (base t : TypeId) (name : Identifier) (s : State) (count : ℕ) : Type 0 where
    pub made : IsMakeGiven T basic few (form_makes name.place Written form base s) t s count
    pub gives : member_named names row form base (Some name) s ≡ Gives (typed.AndDeclarator row (typed.Declares form t)) made.after
    pub whole : IsWhole made.after.table t
    pub grown : IsExtended s.table made.after.table

  member_given : (names : List Name) (row : TypedMemberDeclarators) (form : TypedForm) (base t : TypeId) (name : Identifier) (s : State) (count : ℕ) → IsHere T s → IsType s.table base
      → AreDistinct (names ++ name.bytes ∷ []) → FormMakes T s.seen.scopes form Written base t → is_complete_at T s.seen.scopes t ≡ true
      → AreUses (types_of (made_in T (form_steps Written form) t)) (length s.table) count → IsMemberGiven names row form base t name s count
  member_given names row form base t name s count here there new makes complete uses =
      by (making.form-given T basic few name.place Written form base t s count here.known here.first there makes uses)
    where
      by : IsMakeGiven T basic few (form_makes name.place Written form base s) t s count → IsMemberGiven names row form base t name s count
      by g =
          let law = form-made name.place Written form base t s g.after here.known there g.gives in
          let full : is_complete_at T g.after.seen.scopes t ≡ true = ap (λ (v : Seen). is_complete_at T v.scopes t) g.seen ∙ complete in
          let own : is_complete_at g.after.table g.after.seen.scopes t ≡ true = complete-over g.after.table T g.first g.known.basic g.after.seen.scopes t g.there ∙ full in
          record {
            made = g;
            gives =
                member-is names row form base t name s g.after
                (passes_one rule.Redeclared name.place (has_name names (Some name)) (last-new names name.bytes new)) g.gives
                (passes_one rule.Incomplete name.place (not (is_complete_at g.after.table g.after.seen.scopes t)) (off (is_complete_at g.after.table g.after.seen.scopes t) own));
            whole = (g.there, g.known.followed t own);
            grown = law.goes.goes.extends;
          }

  -- the members before, and the declarator
  record IsRowHead (base : TypeId) (names : List Name) (all : tree.MemberDeclarators) (d : tree.Declarator) (row : TypedMemberDeclarators) (form : TypedForm) (t : TypeId)
      (s : State) (b : Point) (count : ℕ) : Type 0 where
    pub first : State
    pub second : State
    pub gives_row : judge_member_declarators base names all s ≡ Gives row first
    pub gives_form : judge_form naming.None (form-place d) d first ≡ Gives form second
    pub whole : All (IsWhole second.table) (declarator_types row)
    pub reached : IsReached T (made_by_member_declarators row ++ made_by_form form t) s second b count

  module _ (all : tree.MemberDeclarators) (d : tree.Declarator) (ga : IsRowGiven all) (gd : IsFormGiven T basic d) (base : TypeId) (names : List Name)
      (s : State) (b : Point) (count : ℕ) (here : IsHere T s) (there : IsType s.table base) where
    row_head : (row : TypedMemberDeclarators) (form : TypedForm) (t : TypeId) (m : Point) (c : ℕ) → IsRowRead T (distinct T basic) base all row (point_at s) m → IsFormRead T d form m b
        → home_of_form form ≡ home.None → AreDistinct (names ++ declarator_names row) → AreUses (used_by_member_declarators T row ++ used_by_form T form) (length s.table) c
        → HasRoom T (made_by_member_declarators row ++ made_by_form form t) s → member_declarators_holds (tree.AndDeclarator all d) ≤ 256
        → IsRowHead base names all d row form t s b c
    row_head row form t m c before read none new uses room holds =
        let us = uses-first (used_by_member_declarators T row) (used_by_form T form) (length s.table) c uses in
        let p =
        ga base names row s m us.0 here there before new us.1 (room-first T (made_by_member_declarators row) (made_by_form form t) s room)
        (max-left (member_declarators_holds all) (declarator_holds d) 256 holds) in
        let g = p.given in
        let read_form : IsFormRead T d form (point_at p.given.after) b = subst (λ (a : Point). IsFormRead T d form a b) (sym g.reached.point) read in
        let f =
        gd naming.None (form-place d) form p.given.after b c g.reached.here read_form (no-home (name_of_form form) (home_of_form form) none)
        (uses-at T basic (used_by_form T form) (made_by_member_declarators row) s p.given.after m us.0 c g.reached us.2)
        (declared-room T (typed.DeclaredBy form) t no_type p.given.after
        (room-then T (made_by_member_declarators row) (made_by_form form t) s p.given.after room g.reached.way.spent))
        (max-right (member_declarators_holds all) (declarator_holds d) 256 holds) in
        let second : IsReached T (made_by_form form t) p.given.after f.after b c = record {
          here = f.reached.here;
          grown = f.reached.grown;
          point = f.reached.point;
          way = record {
            first = f.reached.way.first;
            small = f.reached.way.small;
            types = f.reached.way.types;
            spent = declared-spent T (typed.DeclaredBy form) no_type t p.given.after f.after f.reached.way.spent;
          };
        } in
        record {
          first = p.given.after;
          second = f.after;
          gives_row = g.gives;
          gives_form = f.gives;
          whole = whole-later p.given.after.table f.after.table f.reached.grown (declarator_types row) p.whole;
          reached = reached-both T basic (made_by_member_declarators row) (made_by_form form t) s p.given.after f.after m b us.0 c g.reached second;
        }

    row_end : (row : TypedMemberDeclarators) (form : TypedForm) (t : TypeId) (c : ℕ) → (h : IsRowHead base names all d row form t s b c) → (name : Identifier) → declarator_name d ≡ Some name
        → IsMemberGiven (names ++ declarator_names row) row form base t name h.second count
        → IsBodyGiven (made_by_member_declarators row ++ made_by_form form t) (judge_member_declarators base names (tree.AndDeclarator all d) s) (typed.AndDeclarator row (typed.Declares form t))
        (declarator_types (typed.AndDeclarator row (typed.Declares form t))) s b count
    row_end row form t c h name q m = record {
      given = record {
        after = m.made.after;
        gives =
            judges-declarator base names all d row form s h.first h.second (Gives (typed.AndDeclarator row (typed.Declares form t)) m.made.after) h.gives_row h.gives_form
            (ap (λ (o : Option Identifier). member_named (names ++ declarator_names row) row form base o h.second) q ∙ m.gives);
        reached = reached-make T basic few (made_by_member_declarators row ++ made_by_form form t) s h.second b c count
            (form_makes name.place Written form base h.second) t h.reached m.made m.grown;
      };
      whole =
          All-append (IsWhole m.made.after.table) (declarator_types row) (t ∷ []) (whole-later h.second.table m.made.after.table m.grown (declarator_types row) h.whole)
          (All-cons (IsWhole m.made.after.table) t [] m.whole (All-nil (IsWhole m.made.after.table)));
    }

    -- a member has a name
    named : (o : Option Identifier) (n m : ℕ) → AreUses (OfMember o ∷ []) n m → (name : Identifier) × (o ≡ Some name) × (m ≡ n)
    named None n m h = absurd h
    named (Some name) n m h = (name, refl, h)

    row_with : (row : TypedMemberDeclarators) (form : TypedForm) (t : TypeId) (m : Point) → IsRowRead T (distinct T basic) base all row (point_at s) m → IsFormRead T d form m b
        → home_of_form form ≡ home.None → FormMakes T b.scopes form Written base t → is_complete_at T b.scopes t ≡ true
        → AreDistinct (names ++ (declarator_names row ++ name_bytes (name_of_form form) ∷ []))
        → AreUses (used_by_member_declarators T row ++ (used_by_form T form ++ types_of (made_in T (form_steps Written form) t)) ++ OfMember (name_of_form form) ∷ []) (length s.table) count
        → HasRoom T (made_by_member_declarators row ++ made_by_form form t) s → member_declarators_holds (tree.AndDeclarator all d) ≤ 256
        → IsBodyGiven (made_by_member_declarators row ++ made_by_form form t) (judge_member_declarators base names (tree.AndDeclarator all d) s) (typed.AndDeclarator row (typed.Declares form t))
        (declarator_types (typed.AndDeclarator row (typed.Declares form t))) s b count
    row_with row form t m before read none makes complete new uses room holds =
        let types : List Use = types_of (made_in T (form_steps Written form) t) in
        let us =
        uses-first (used_by_member_declarators T row ++ (used_by_form T form ++ types_of (made_in T (form_steps Written form) t))) (OfMember (name_of_form form) ∷ []) (length s.table) count uses in
        let own = named (name_of_form form) us.0 count us.2 in
        let vs =
        uses-first (used_by_member_declarators T row ++ used_by_form T form) (types_of (made_in T (form_steps Written form) t)) (length s.table) us.0
        (subst (λ (all : List Use). AreUses all (length s.table) us.0) (sym (append_assoc (used_by_member_declarators T row) (used_by_form T form) (types_of (made_in T (form_steps Written form) t)))) us.1) in
        let all_new : AreDistinct ((names ++ declarator_names row) ++ name_bytes (name_of_form form) ∷ []) =
        subst AreDistinct (sym (append_assoc names (declarator_names row) (name_bytes (name_of_form form) ∷ []))) new in
        let h =
        row_head row form t m vs.0 before read none (distinct-prefix (names ++ declarator_names row) (name_bytes (name_of_form form) ∷ []) all_new) vs.1 room holds in
        let scopes : h.second.seen.scopes ≡ b.scopes = ap (λ (a : Point). a.scopes) h.reached.point in
        let name : declarator_name d ≡ Some own.0 = ap declarator_name (sym read.0) ∙ (form-name form ∙ own.1) in
        let uses_types : AreUses (types_of (made_in T (form_steps Written form) t)) (length h.second.table) count =
        subst (λ (n : ℕ). AreUses (types_of (made_in T (form_steps Written form) t)) n count) (sym h.reached.way.types)
        (subst (λ (n : ℕ). AreUses (types_of (made_in T (form_steps Written form) t)) vs.0 n) (sym own.2) vs.2) in
        row_end row form t vs.0 h own.0 name
        (member_given (names ++ declarator_names row) row form base t own.0 h.second count h.reached.here (still_in s.table h.second.table h.reached.grown base there)
        (subst (λ (o : Option Identifier). AreDistinct ((names ++ declarator_names row) ++ name_bytes o ∷ [])) own.1 all_new)
        (subst (λ (c : Scopes). FormMakes T c form Written base t) (sym scopes) makes) (ap (λ (c : Scopes). is_complete_at T c t) scopes ∙ complete) uses_types)

  pub row-given : (all : tree.MemberDeclarators) (d : tree.Declarator) → IsRowGiven all → IsFormGiven T basic d → IsRowGiven (tree.AndDeclarator all d)
  row-given all d ga gd base names row s b count here there h new uses room holds =
      let i = is_row T (distinct T basic) base (tree.AndDeclarator all d) row (point_at s) b h in
      let complete : is_complete_at T b.scopes i.2 ≡ true = (subst (λ (y : TypedMemberDeclarators). AreMemberDeclarators T base y s.seen.scopes b.scopes) i.6 h.1).5 in
      subst (λ (y : TypedMemberDeclarators). IsBodyGiven (made_by_member_declarators y) (judge_member_declarators base names (tree.AndDeclarator all d) s) y (declarator_types y) s b count) (sym i.6)
      (row_with all d ga gd base names s b count here there i.0 i.1 i.2 i.3.0 i.3.1 i.3.2 i.4 i.5 complete
      (subst (λ (y : TypedMemberDeclarators). AreDistinct (names ++ declarator_names y)) i.6 new)
      (subst (λ (y : TypedMemberDeclarators). AreUses (used_by_member_declarators T y) (length s.table) count) i.6 uses)
      (subst (λ (y : TypedMemberDeclarators). HasRoom T (made_by_member_declarators y) s) i.6 room) holds)

  pub bit-field-given : (all : tree.MemberDeclarators) (d : tree.Declarator) → IsRowGiven (tree.AndBitField all d)
  bit-field-given all d base names row s b count here there h new uses room holds = absurd (is_row T (distinct T basic) base (tree.AndBitField all d) row (point_at s) b h)

  pub unnamed-bit-field-given : (all : tree.MemberDeclarators) → IsRowGiven (tree.AndUnnamedBitField all)
  unnamed-bit-field-given all base names row s b count here there h new uses room holds =
      absurd (is_row T (distinct T basic) base (tree.AndUnnamedBitField all) row (point_at s) b h)

  -- Rows

  pub no-member-given : AreMembersGiven tree.NoMember
  no-member-given rows s b count here h new uses room holds =
      let i = are_members T (distinct T basic) tree.NoMember rows (point_at s) b h in
      subst (λ (y : TypedMembers). IsBodyGiven (made_by_members y) (judge_members tree.NoMember s) y (member_types y) s b count) (sym i.0)
      (record {
        given = record {
          after = s;
          gives = judges-no-member s;
          reached = reached-none T basic s b count here i.1 (subst (λ (y : TypedMembers). AreUses (used_by_members T y) (length s.table) count) i.0 uses);
        };
        whole = All-nil (IsWhole s.table);
      })

  record IsMembersHead (all : tree.Members) (specifiers : tree.Specifiers) (rows : TypedMembers) (own : TypedSpecifierList) (u : TypeId) (s : State) (b : Point) (count : ℕ) : Type 0 where
    pub first : State
    pub second : State
    pub gives_rows : judge_members all s ≡ Gives rows first
    pub gives_own : judge_list specifiers first ≡ Gives own second
    pub base : listed own ≡ u
    pub there : IsType second.table (listed own)
    pub whole : All (IsWhole second.table) (member_types rows)
    pub reached : IsReached T (made_by_members rows ++ made_by_specifier_list own) s second b count

  module _ (all : tree.Members) (specifiers : tree.Specifiers) (declarators : tree.MemberDeclarators) (ga : AreMembersGiven all) (gl : AreListGiven T basic specifiers)
      (gr : IsRowGiven declarators) (s : State) (b : Point) (count : ℕ) (here : IsHere T s) where
    members_head : (rows : TypedMembers) (own : TypedSpecifierList) (u : TypeId) (m n : Point) (c : ℕ) → AreMembersRead T (distinct T basic) all rows (point_at s) m
        → IsReadAs erased_specifiers made_by_specifiers (AreSpecifiers T) specifiers (typed.Specified own u) m n → AreDistinct (member_names rows)
        → AreUses (used_by_members T rows ++ used_by_specifier_list T own) (length s.table) c
        → HasRoom T (made_by_members rows ++ made_by_specifier_list own) s → members_holds (tree.AndMember all specifiers declarators) ≤ 256
        → IsMembersHead all specifiers rows own u s n c
    members_head rows own u m n c before read new uses room holds =
        let us = uses-first (used_by_members T rows) (used_by_specifier_list T own) (length s.table) c uses in
        let p =
        ga rows s m us.0 here before new us.1 (room-first T (made_by_members rows) (made_by_specifier_list own) s room)
        (max-left (members_holds all) (max (specifiers_holds specifiers) (member_declarators_holds declarators)) 256 holds) in
        let g = p.given in
        let read_list : AreListRead T (distinct T basic) specifiers own (point_at p.given.after) n =
        subst (λ (a : Point). AreListRead T (distinct T basic) specifiers own a n) (sym g.reached.point) (read.0, read.1.0, read.2) in
        let l =
        gl own p.given.after n c g.reached.here read_list read.1.1.allowed
        (uses-at T basic (used_by_specifier_list T own) (made_by_members rows) s p.given.after m us.0 c g.reached us.2)
        (room-then T (made_by_members rows) (made_by_specifier_list own) s p.given.after room g.reached.way.spent)
        (max-left (specifiers_holds specifiers) (member_declarators_holds declarators) 256
        (max-right (members_holds all) (max (specifiers_holds specifiers) (member_declarators_holds declarators)) 256 holds)) in
        let judged = specifiers-judged specifiers own p.given.after l.after g.reached.here.known l.gives in
        let named = list-typed specifiers own p.given.after l.after judged in
        let over = specifiers-kept l.after.table T l.reached.way.first l.reached.here.known.basic (specified own) p.given.after.seen.scopes l.after.seen.scopes named.0 in
        record {
          first = p.given.after;
          second = l.after;
          gives_rows = g.gives;
          gives_own = l.gives;
          base = of-type-one T (distinct T basic) own own (listed_type (named_by_list own) (counted own)) u refl over.1 read.1.1;
          there = named.1;
          whole = whole-later p.given.after.table l.after.table l.reached.grown (member_types rows) p.whole;
          reached = reached-both T basic (made_by_members rows) (made_by_specifier_list own) s p.given.after l.after m n us.0 c g.reached l.reached;
        }

    members_end : (rows : TypedMembers) (own : TypedSpecifierList) (u : TypeId) (row : TypedMemberDeclarators) (n : Point) (c : ℕ) → (h : IsMembersHead all specifiers rows own u s n c)
        → (r : IsBodyGiven (made_by_member_declarators row) (judge_member_declarators (listed own) (member_names rows) declarators h.second) row (declarator_types row) h.second b count)
        → IsBodyGiven (made_by_members (typed.AndMember rows (typed.Specified own u) row)) (judge_members (tree.AndMember all specifiers declarators) s)
        (typed.AndMember rows (typed.Specified own u) row) (member_types (typed.AndMember rows (typed.Specified own u) row)) s b count
    members_end rows own u row n c h r = record {
      given = record {
        after = r.given.after;
        gives = judges-member all specifiers declarators rows own row s h.first h.second r.given.after h.gives_rows h.gives_own r.given.gives
            ∙ ap (λ (v : TypeId). Gives (typed.AndMember rows (typed.Specified own v) row) r.given.after) h.base;
        reached = reached-both T basic (made_by_members rows ++ made_by_specifier_list own) (made_by_member_declarators row) s h.second r.given.after n b c count h.reached r.given.reached;
      };
      whole =
          All-append (IsWhole r.given.after.table) (member_types rows) (declarator_types row)
          (whole-later h.second.table r.given.after.table r.given.reached.grown (member_types rows) h.whole) r.whole;
    }

    members_with : (rows : TypedMembers) (words : TypedSpecifiers) (row : TypedMemberDeclarators) (m n : Point) → AreMembersRead T (distinct T basic) all rows (point_at s) m
        → IsReadAs erased_specifiers made_by_specifiers (AreSpecifiers T) specifiers words m n → IsRowRead T (distinct T basic) (specified_type words) declarators row n b
        → AreDistinct (member_names rows ++ declarator_names row) → AreUses (used_by_members T (typed.AndMember rows words row)) (length s.table) count
        → HasRoom T (made_by_members (typed.AndMember rows words row)) s → members_holds (tree.AndMember all specifiers declarators) ≤ 256
        → IsBodyGiven (made_by_members (typed.AndMember rows words row)) (judge_members (tree.AndMember all specifiers declarators) s)
        (typed.AndMember rows words row) (member_types (typed.AndMember rows words row)) s b count
    members_with rows (typed.Specified own u) row m n before read last new uses room holds =
        let us = uses-first (used_by_members T rows ++ used_by_specifier_list T own) (used_by_member_declarators T row) (length s.table) count uses in
        let h =
        members_head rows own u m n us.0 before read (distinct-prefix (member_names rows) (declarator_names row) new) us.1
        (room-first T (made_by_members rows ++ made_by_specifier_list own) (made_by_member_declarators row) s room) holds in
        let read_row : IsRowRead T (distinct T basic) (listed own) declarators row (point_at h.second) b =
        subst (λ (v : TypeId). IsRowRead T (distinct T basic) v declarators row (point_at h.second) b) (sym h.base)
        (subst (λ (a : Point). IsRowRead T (distinct T basic) u declarators row a b) (sym h.reached.point) last) in
        members_end rows own u row n us.0 h
        (gr (listed own) (member_names rows) row h.second b count h.reached.here h.there read_row new
        (uses-at T basic (used_by_member_declarators T row) (made_by_members rows ++ made_by_specifier_list own) s h.second n us.0 count h.reached us.2)
        (room-then T (made_by_members rows ++ made_by_specifier_list own) (made_by_member_declarators row) s h.second room h.reached.way.spent)
        (max-right (specifiers_holds specifiers) (member_declarators_holds declarators) 256
        (max-right (members_holds all) (max (specifiers_holds specifiers) (member_declarators_holds declarators)) 256 holds)))

  pub members-given : (all : tree.Members) (specifiers : tree.Specifiers) (declarators : tree.MemberDeclarators) → AreMembersGiven all → AreListGiven T basic specifiers
      → IsRowGiven declarators → AreMembersGiven (tree.AndMember all specifiers declarators)
  members-given all specifiers declarators ga gl gr rows s b count here h new uses room holds =
      let i = are_members T (distinct T basic) (tree.AndMember all specifiers declarators) rows (point_at s) b h in
      subst (λ (y : TypedMembers). IsBodyGiven (made_by_members y) (judge_members (tree.AndMember all specifiers declarators) s) y (member_types y) s b count) (sym i.8)
      (members_with all specifiers declarators ga gl gr s b count here i.0 i.1 i.2 i.3 i.4 i.5 i.6 i.7 (subst (λ (y : TypedMembers). AreDistinct (member_names y)) i.8 new)
      (subst (λ (y : TypedMembers). AreUses (used_by_members T y) (length s.table) count) i.8 uses) (subst (λ (y : TypedMembers). HasRoom T (made_by_members y) s) i.8 room) holds)

-- Each member has a name, which its declarator makes: members have no more names than they make.
use Rattle.std.proofs.Common.{◌≡◌, ◌≤◌, ◌<◌, ℕ, [], ◌∷◌, ◌++◌, length, Option, Some, None, refl, arith}
use Rattle.std.proofs.lemmas.List.{length-append}
use Rattle.cc_base.specs.declared.number.TypeId.{TypeId}
use Rattle.c_types.specs.Table.{Table}
use Rattle.c_tree.specs.declared.leaf.Identifier.{Identifier}
use Rattle.c_tree.specs.TypedTree as typed
use Rattle.c_tree.specs.TypedTree.{TypedForm, TypedCore, TypedMembers, TypedMemberDeclarators}
use Rattle.c_tree.specs.TypedParts.{made_by_stars, made_by_form, made_by_core, made_by_parts, made_by_specifiers, made_by_members, made_by_member_declarators, name_of_form, name_of_core}
use Rattle.c_typing.specs.Declarators.{Written, declarator_names, member_names, name_bytes}
use Rattle.c_type_order.specs.TypesUsed.{AreUses, OfMember, used_by_declarator, used_by_specifiers, used_by_members, used_by_member_declarators}
use Rattle.c_typing_given.proofs.ValueSteps.{uses-first}

-- what has a name makes it
mutual
  form_made : (x : TypedForm) (t : TypeId) (name : Identifier) → name_of_form x ≡ Some name → 0 < length (made_by_form x t)
  form_made (typed.Form stars core parts) t name h =
      let one = core_made core t name h in
      omega (
        arith,
        one,
        length-append (made_by_stars stars ++ made_by_core core t) (made_by_parts parts),
        length-append (made_by_stars stars) (made_by_core core t),
      )

  core_made : (x : TypedCore) (t : TypeId) (name : Identifier) → name_of_core x ≡ Some name → 0 < length (made_by_core x t)
  core_made (typed.Names own home) t name h = omega arith
  core_made typed.Unnamed t name h = cc
  core_made (typed.Nested at form) t name h = form_made form t name h

named : (o : Option Identifier) (n m : ℕ) → AreUses (OfMember o ∷ []) n m → (name : Identifier) × (o ≡ Some name)
named None n m h = absurd h
named (Some name) n m h = (name, refl)

row_made : (T : Table) (row : TypedMemberDeclarators) (n m : ℕ) → AreUses (used_by_member_declarators T row) n m
    → length (declarator_names row) ≤ length (made_by_member_declarators row)
row_made T typed.NoDeclarator n m h = omega arith
row_made T (typed.AndDeclarator all (typed.Declares form t)) n m h =
    let us =
    uses-first (used_by_member_declarators T all ++ used_by_declarator T Written (typed.Declares form t)) (OfMember (name_of_form form) ∷ []) n m h in
    let vs = uses-first (used_by_member_declarators T all) (used_by_declarator T Written (typed.Declares form t)) n us.0 us.1 in
    let before = row_made T all n vs.0 vs.1 in
    let own = named (name_of_form form) us.0 m us.2 in
    let one = form_made form t own.0 own.1 in
    omega (
      arith,
      before,
      one,
      length-append (declarator_names all) (name_bytes (name_of_form form) ∷ []),
      length-append (made_by_member_declarators all) (made_by_form form t),
    )

pub members-made : (T : Table) (rows : TypedMembers) (n m : ℕ) → AreUses (used_by_members T rows) n m
    → length (member_names rows) ≤ length (made_by_members rows)
members-made T typed.NoMember n m h = omega arith
members-made T (typed.AndMember all specifiers row) n m h =
    let us = uses-first (used_by_members T all ++ used_by_specifiers T specifiers) (used_by_member_declarators T row) n m h in
    let vs = uses-first (used_by_members T all) (used_by_specifiers T specifiers) n us.0 us.1 in
    let before = members-made T all n vs.0 vs.1 in
    let last = row_made T row us.0 m us.2 in
    omega (
      arith,
      before,
      last,
      length-append (member_names all) (declarator_names row),
      length-append (made_by_members all ++ made_by_specifiers specifiers) (made_by_member_declarators row),
      length-append (made_by_members all) (made_by_specifiers specifiers),
    )

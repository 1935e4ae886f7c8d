-- Checks behind the lines that set their numbers are what an operation asks.
use Rattle.std.proofs.Common.{◌≡◌, refl, sym, subst, inr, List, [], ◌∷◌, ◌++◌}
use Rattle.cc_base.specs.declared.kind.Kind.{Kind}
use Rattle.cc_base.specs.declared.place.Place.{Place}
use Rattle.cured_code.specs.declared.instr.Instr.{Instr}
use Rattle.cured_code.specs.declared.instr.Instr.TheVariants as instr
use Rattle.check_forms.specs.Pieces.{Line, Then}
use Rattle.check_forms.specs.declared.op.Op.{Op}
use Rattle.cure_rules.specs.Checks.{Need, AreGot, numbers_of, IsGuarded}
use Rattle.cure_scope.specs.declared.scope.Scope.{Scope}
use Rattle.cure_scope.specs.Scopes.{world_of}
use Rattle.cure_scope.specs.Needs.{sets, Needs, Guards, AreSeated}

are_got : (k : Scope) (xs : List Need) → AreSeated xs → AreGot (world_of k) xs (sets xs)
unfolding Line Then
are_got k [] seated = refl
are_got k (x ∷ xs) seated =
    (instr.Const x.number.slot x.number.value ∷ [], sets xs, inr (seated.0, refl), are_got k xs seated.1, refl)

pub guarded : (k : Scope) (op : Op) (kind : Kind) (at : Place) (code : List Instr) → AreSeated (numbers_of op kind) → Guards op kind at code
    → IsGuarded (world_of k) op kind at code
unfolding Guards Then Needs
guarded k op kind at code seated h =
    (h.0, h.1, subst (AreGot (world_of k) (numbers_of op kind)) (sym h.2) (are_got k (numbers_of op kind) seated), h.3, h.4)

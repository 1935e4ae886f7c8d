-- The slots of a function, each with one owner.
use Rattle.std.specs.Prelude.{if◌then◌else◌, ◌≢◌}
use Rattle.std.proofs.Common.{◌≡◌, ap, sym, ◌∙◌, ℕ, ◌+◌, ◌*◌, ◌-◌, ◌/◌, ◌%◌, ◌<◌, ◌≤◌, Bool, true, false, nat_lt, arith}
use Rattle.std.proofs.lemmas.Bool.Decides.{nat_tests}
use Rattle.std.proofs.lemmas.Nat.{div-mul-add}
use Rattle.cil_form.specs.declared.number.Temp.{Temp}
use Rattle.cil_form.specs.declared.number.Temp.TheVariants as temp
use Rattle.cil_form.specs.declared.number.Work.TheVariants.{First, Second}
use Rattle.cil_form.specs.Typing.{IsTemp}
use Rattle.cure_rules.specs.Slots.{Owner, Column, Working, Argument, Nought, Kept, Owns, AreSlots}
use Rattle.cure_scope.specs.Scopes.{fixed_slots, fixed_column}

no : {A : Type 0} (a b : ℕ) (x y : A) → b ≤ a → (if nat_lt a b then x else y) ≡ y
no {A} a b x y h = let e : nat_lt a b ≡ false = grind (arith, nat_tests) in ap (λ (v : Bool). if v then x else y) e

yes : {A : Type 0} (a b : ℕ) (x y : A) → a < b → (if nat_lt a b then x else y) ≡ x
yes {A} a b x y h = let e : nat_lt a b ≡ true = grind (arith, nat_tests) in ap (λ (v : Bool). if v then x else y) e

-- by intervals

of_switches : ℕ → Owner
of_switches a = Column (temp.Switch ((a - 1180) / 3)) ((a - 1180) % 3)

of_values : ℕ → Owner
of_values a = if nat_lt a 1180 then Column (temp.Value ((a - 412) / 3)) ((a - 412) % 3) else of_switches a

of_work : ℕ → Owner
of_work a = if nat_lt a 409 then Column (temp.Work First) (a - 406) else (if nat_lt a 412 then Column (temp.Work Second) (a - 409) else of_values a)

of_rest : ℕ → Owner
of_rest a = if nat_lt a 382 then Nought else (if nat_lt a 406 then Working (a - 382) else of_work a)

owner_of : ℕ → Owner
owner_of a = if nat_lt a 381 then Argument a else of_rest a

-- a number of threes and a rest
thirds : (n j : ℕ) → j < 3 → ((n * 3 + j) / 3 ≡ n) × ((n * 3 + j) % 3 ≡ j)
thirds n j l = (div-mul-add n 3 j l, mod_three n j l)
  where
    mod_three : (n j : ℕ) → j < 3 → (n * 3 + j) % 3 ≡ j
    mod_three n j l = grind arith

column_same : (f : ℕ → Temp) (a n j : ℕ) → j < 3 → a ≡ n * 3 + j → Column (f (a / 3)) (a % 3) ≡ Column (f n) j
column_same f a n j l e =
    let t = thirds n j l in
    ap (λ (m : ℕ). Column (f (m / 3)) (m % 3)) e
    ∙ ap (λ (m : ℕ). Column (f m) ((n * 3 + j) % 3)) t.0
    ∙ ap (λ (m : ℕ). Column (f n) m) t.1

row_at : (a : ℕ) → a < 381 → owner_of a ≡ Argument a
unfolding owner_of
row_at a l = yes a 381 (Argument a) (of_rest a) l

rest_at : (a : ℕ) → 381 ≤ a → owner_of a ≡ of_rest a
unfolding owner_of
rest_at a l = no a 381 (Argument a) (of_rest a) l

nought_at : owner_of 381 ≡ Nought
unfolding of_rest
nought_at = rest_at 381 (omega arith) ∙ yes 381 382 Nought (if nat_lt 381 406 then Working (381 - 382) else of_work 381) (omega arith)

behind_nought : (a : ℕ) → 382 ≤ a → owner_of a ≡ (if nat_lt a 406 then Working (a - 382) else of_work a)
unfolding of_rest
behind_nought a l = rest_at a (omega (arith, l)) ∙ no a 382 Nought (if nat_lt a 406 then Working (a - 382) else of_work a) l

work_at : (j : ℕ) → j < 24 → owner_of (382 + j) ≡ Working j
work_at j l =
    let e : 382 + j - 382 ≡ j = omega arith in
    behind_nought (382 + j) (omega arith) ∙ yes (382 + j) 406 (Working (382 + j - 382)) (of_work (382 + j)) (omega (arith, l)) ∙ ap (λ (m : ℕ). Working m) e

columns_from : (a : ℕ) → 406 ≤ a → owner_of a ≡ of_work a
columns_from a l = behind_nought a (omega (arith, l)) ∙ no a 406 (Working (a - 382)) (of_work a) l

first_at : (j : ℕ) → j < 3 → owner_of (406 + j) ≡ Column (temp.Work First) j
unfolding of_work
first_at j l =
    let e : 406 + j - 406 ≡ j = omega arith in
    columns_from (406 + j) (omega arith)
    ∙ yes (406 + j) 409 (Column (temp.Work First) (406 + j - 406)) (if nat_lt (406 + j) 412 then Column (temp.Work Second) (406 + j - 409) else of_values (406 + j)) (omega (arith, l))
    ∙ ap (λ (m : ℕ). Column (temp.Work First) m) e

behind_first : (a : ℕ) → 409 ≤ a → owner_of a ≡ (if nat_lt a 412 then Column (temp.Work Second) (a - 409) else of_values a)
unfolding of_work
behind_first a l =
    columns_from a (omega (arith, l))
    ∙ no a 409 (Column (temp.Work First) (a - 406)) (if nat_lt a 412 then Column (temp.Work Second) (a - 409) else of_values a) l

second_at : (j : ℕ) → j < 3 → owner_of (409 + j) ≡ Column (temp.Work Second) j
second_at j l =
    let e : 409 + j - 409 ≡ j = omega arith in
    behind_first (409 + j) (omega arith) ∙ yes (409 + j) 412 (Column (temp.Work Second) (409 + j - 409)) (of_values (409 + j)) (omega (arith, l))
    ∙ ap (λ (m : ℕ). Column (temp.Work Second) m) e

values_from : (a : ℕ) → 412 ≤ a → owner_of a ≡ of_values a
values_from a l = behind_first a (omega (arith, l)) ∙ no a 412 (Column (temp.Work Second) (a - 409)) (of_values a) l

abbrev value_of : ℕ → Temp
value_of n = temp.Value n

abbrev switch_of : ℕ → Temp
switch_of n = temp.Switch n

value_at : (n j : ℕ) → n < 256 → j < 3 → owner_of (412 + 3 * n + j) ≡ Column (temp.Value n) j
unfolding of_values
value_at n j l m =
    let a : ℕ = 412 + 3 * n + j in
    values_from a (omega arith) ∙ yes a 1180 (Column (temp.Value ((a - 412) / 3)) ((a - 412) % 3)) (of_switches a) (omega (arith, l, m))
    ∙ column_same value_of (a - 412) n j m (omega arith)

switch_at : (n j : ℕ) → n < 256 → j < 3 → owner_of (1180 + 3 * n + j) ≡ Column (temp.Switch n) j
unfolding of_values of_switches
switch_at n j l m =
    let a : ℕ = 1180 + 3 * n + j in
    values_from a (omega arith) ∙ no a 1180 (Column (temp.Value ((a - 412) / 3)) ((a - 412) % 3)) (of_switches a) (omega arith)
    ∙ column_same switch_of (a - 1180) n j m (omega arith)

columns_owned : (t : Temp) (j : ℕ) → IsTemp t → j < 3 → Owns 1948 owner_of (fixed_column t + j) (Column t j)
columns_owned (temp.Work First) j t l = record { below = omega (arith, l); is = first_at j l }
columns_owned (temp.Work Second) j t l = record { below = omega (arith, l); is = second_at j l }
columns_owned (temp.Value n) j t l = record { below = omega (arith, t, l); is = value_at n j t l }
columns_owned (temp.Switch n) j t l = record { below = omega (arith, t, l); is = switch_at n j t l }

columns_room : (t : Temp) → IsTemp t → fixed_column t + 3 ≤ 1948
columns_room (temp.Work First) t = omega arith
columns_room (temp.Work Second) t = omega arith
columns_room (temp.Value n) t = omega (arith, t)
columns_room (temp.Switch n) t = omega (arith, t)

behind_row : (a n : ℕ) → n ≤ 381 → a < n → (owner_of a ≢ Nought) × ((j : ℕ) → owner_of a ≢ Kept j) × ((j : ℕ) → owner_of a ≢ Working j)
behind_row a n l m =
    let r = row_at a (omega (arith, l, m)) in
    (λ e. apart_nought a (sym r ∙ e), λ j e. apart_kept a j (sym r ∙ e), λ j e. apart_working a j (sym r ∙ e))
  where
    apart_nought : (a : ℕ) → Argument a ≡ Nought → ⊥
    apart_nought a e = cc

    apart_kept : (a j : ℕ) → Argument a ≡ Kept j → ⊥
    apart_kept a j e = cc

    apart_working : (a j : ℕ) → Argument a ≡ Working j → ⊥
    apart_working a j e = cc

pub are_slots : (n : ℕ) → n ≤ 381 → AreSlots (fixed_slots n)
are_slots n l = record {
  owner = owner_of;
  columns = columns_owned;
  works = λ j m. record { below = omega (arith, m); is = work_at j m };
  row = λ j m. record { below = omega (arith, m); is = ap owner_of (let e : 0 + j ≡ j = omega arith in e) ∙ row_at j m };
  nought = record { below = omega arith; is = nought_at };
  kept = λ j x e. absurd (cc (e));
  column_room = columns_room;
  kept_room = λ j x e. absurd (cc (e));
  behind = λ a m. behind_row a n l m;
}

-- How drafts grow, and what is held.
use Rattle.std.proofs.Common.{◌≡◌, refl, ap, sym, subst, ◌∙◌, ℕ, Bool, true, false, if◌then◌else◌, List, [], ◌∷◌, ◌++◌, length, take, Option, Some, append-nil}
use Rattle.std.proofs.lemmas.List.{append_cancel_left}
use Rattle.std.proofs.Math.Seq.{take-append_seam}
use Rattle.cured_code.specs.declared.instr.Instr as flat
use Rattle.check_forms.specs.Pieces.{Piece}
use Rattle.check_insert.specs.declared.draft.Draft.{Draft}
use Rattle.check_insert.specs.Drafts.{Grows}
use Rattle.cil_form.specs.declared.number.Temp.{Temp}
use Rattle.cil_form.specs.declared.instr.Instr.{Instr}
use Rattle.cil_form.specs.State.{is_same}
use Rattle.cil_form.specs.Typing.{Context, HeldType, Typing, Includes, with_held, no_types, IsShaped}
use Rattle.cure_rules.specs.Known.{World, known_of}
use Rattle.cure_rules.specs.Code.{IsCuring}
use Rattle.cure_instrs.specs.Lines.{held_views}
use Rattle.cure_bodies.specs.declared.holding.Written.{Written}
use Rattle.cure_bodies.specs.declared.holding.Holdings.{Holdings}
use Rattle.cure_bodies.specs.Holding.{writes, typing_of, holds_now, Extends, Makes, Notes}
use Rattle.cure_bodies.specs.Bodies.{IsInside, known_behind, InstrCured}

pub makes_of : (P : Piece) (R : Type 0) (a b : Draft) → Grows P R a b → Makes P a b
unfolding Grows Makes
makes_of P R a b g = g.0

pub makes_as : (P Q : Piece) (a b : Draft) → ((x : List flat.Instr) → P x → Q x) → Makes P a b → Makes Q a b
unfolding Makes
makes_as P Q a b more f = λ fine. let p = f fine in (p.0, (p.1.0, more p.1.0 p.1.1, p.1.2))

-- the same lines are right for each typing
pub makes_each : (A : Typing → Type 0) (P : Typing → Piece) (T : Typing) (a b : Draft) → A T → ((types : Typing) → A types → Makes (P types) a b)
    → Makes (λ code. (types : Typing) → A types → P types code) a b
unfolding Makes
makes_each A P T a b at f = λ fine.
    let p = f T at fine in (
      p.0,
      (
        p.1.0,
        λ types h.
            let q = f types h fine in
            subst (P types) (append_cancel_left a.items.items q.1.0 p.1.0 (sym q.1.2 ∙ p.1.2)) q.1.1,
        p.1.2,
      ),
    )

-- What is held

pub writes-append : (xs ys : List Written) (types : Typing) → writes (xs ++ ys) types ≡ writes ys (writes xs types)
writes-append [] ys types = refl
writes-append (x ∷ xs) ys types = writes-append xs ys (with_held x.temp (held_views x.held) types)

pub held_one : (xs : List Written) (y : Written) → typing_of (xs ++ (y ∷ [])) ≡ with_held y.temp (held_views y.held) (typing_of xs)
held_one xs y = writes-append xs (y ∷ []) no_types

-- what was written last into another temporary doesn't count
pub held_before : (xs ys : List Written) (y : Written) (t : Temp) → ys ≡ xs ++ (y ∷ []) → is_same t y.temp ≡ false → typing_of ys t ≡ typing_of xs t
held_before xs ys y t e f = ap (λ z. typing_of z t) e ∙ ap (λ z. z t) (held_one xs y) ∙ ap (λ b. if b then held_views y.held else typing_of xs t) f

pub held_last : (xs ys : List Written) (y : Written) (t : Temp) → ys ≡ xs ++ (y ∷ []) → is_same t y.temp ≡ true → typing_of ys t ≡ held_views y.held
held_last xs ys y t e f = ap (λ z. typing_of z t) e ∙ ap (λ z. z t) (held_one xs y) ∙ ap (λ b. if b then held_views y.held else typing_of xs t) f

-- what was written since is dropped
pub rewound : (h g r : Holdings) (n : ℕ) → Extends g h → n ≡ length h.items.items → r.items.items ≡ take n g.items.items → r.items.items ≡ h.items.items
rewound h g r n more e f = f ∙ ap (λ z. take z g.items.items) e ∙ ap (λ z. take (length h.items.items) z) more.1 ∙ take-append_seam h.items.items more.0

by : (b : Bool) (x x' y z : Option HeldType) (v : HeldType) → (x ≡ Some v → x' ≡ Some v) → (y ≡ Some v → z ≡ Some v)
    → (if b then x else y) ≡ Some v → (if b then x' else z) ≡ Some v
by true x x' y z v k h e = k e
by false x x' y z v k h e = h e

-- no less is held behind a write than the shape knows
pub tracks : (T types less : Typing) (t : Temp) (x y : Option HeldType) → Includes T types → ((v : HeldType) → y ≡ Some v → x ≡ Some v)
    → Includes (with_held t y types) less → Includes (with_held t x T) less
tracks T types less t x y more same l = λ u v e. by (is_same u t) y x (types u) (T u) v (same v) (more u v) (l u v e)

-- Lines of an instruction, and what it leaves

pub noted : (i : Instr) (w : World) (t : Temp) (x : Option HeldType) (h g : Holdings) (a b c : Draft) (P : Piece)
    → ((code : List flat.Instr) (cx : Context) (blocks : List Typing) (types less : Typing) → P code → IsInside w cx blocks → Includes (holds_now h) types
    → IsShaped i cx types less → IsCuring i w (known_behind w blocks) (known_of w.slots types) (known_of w.slots less) code)
    → ((cx : Context) (blocks : List Typing) (types less : Typing) → IsInside w cx blocks → Includes (holds_now h) types
    → IsShaped i cx types less → Includes (with_held t x (holds_now h)) less)
    → Makes P a b → Notes t x b h c g → Makes (InstrCured i w h g) a c
unfolding Makes Notes InstrCured
noted i w t x h g a b c P cured tracked m n = λ fine.
    let q = n.0 fine in let p = m q.0 in let y = q.2.0 in
    let e : holds_now g ≡ with_held t x (holds_now h) = ap typing_of q.2.3 ∙ held_one h.items.items y
    ∙ ap (λ z. with_held z (held_views y.held) (holds_now h)) q.2.1 ∙ ap (λ z. with_held t z (holds_now h)) q.2.2 in (
      p.0,
      (
        p.1.0,
        (
          (y ∷ [], q.2.3),
          λ cx blocks types less is more s.
              (subst (λ z. Includes z less) (sym e) (tracked cx blocks types less is more s), cured p.1.0 cx blocks types less p.1.1 is more s),
        ),
        q.1 ∙ p.1.2,
      ),
    )

pub extends-none : (h : Holdings) → Extends h h
extends-none h = ([], sym (append-nil h.items.items))

-- one that leaves nothing
pub unnoted : (i : Instr) (w : World) (h : Holdings) (a b : Draft) (P : Piece)
    → ((code : List flat.Instr) (cx : Context) (blocks : List Typing) (types less : Typing) → P code → IsInside w cx blocks → Includes (holds_now h) types
    → IsShaped i cx types less → IsCuring i w (known_behind w blocks) (known_of w.slots types) (known_of w.slots less) code)
    → ((cx : Context) (types less : Typing) → IsShaped i cx types less → Includes types less)
    → Makes P a b → Makes (InstrCured i w h h) a b
unfolding Makes InstrCured
unnoted i w h a b P cured keeps m = λ fine.
    let p = m fine in (
      p.0,
      (
        p.1.0,
        (
          extends-none h,
          λ cx blocks types less is more s. (λ u v e. more u v (keeps cx types less s u v e), cured p.1.0 cx blocks types less p.1.1 is more s),
        ),
        p.1.2,
      ),
    )

-- Where code may be cured, nothing is met that has no code.
use Rattle.std.proofs.Common.{◌≡◌, refl, sym, subst, ◌∙◌, ℕ, suc, ◌+◌, ◌<◌, arith, true, false, List, [], ◌∷◌, length, take, drop, get_or, Option, Some, None, IsSome}
use Rattle.check_forms.specs.Pieces.{Piece}
use Rattle.check_insert.specs.declared.draft.Draft.{Draft}
use Rattle.check_insert.specs.Drafts.{Grows, Starts, Chosen, AreBothReady}
use Rattle.cil_form.specs.declared.number.Temp.{Temp}
use Rattle.cil_form.specs.declared.instr.Code.{Code}
use Rattle.cil_form.specs.declared.instr.Instr.{Instr}
use Rattle.cil_form.specs.declared.instr.Instr.TheVariants as source
use Rattle.cil_form.specs.Typing.{Context, HeldType, Typing, Includes, no_types, inside, IsShaped, AreShaped}
use Rattle.cil_form.proofs.TypingLaws.{shaped-held, shaped-more, shaped-less}
use Rattle.cil_form.proofs.AskedLaws.{instr-asked}
use Rattle.cure_rules.specs.Known.{World}
use Rattle.cure_ready.specs.Curable.{IsCurable, CanBeCured}
use Rattle.cure_ready.proofs.Instructions.{can-cure}
use Rattle.cure_bodies.specs.declared.holding.Holdings.{Holdings}
use Rattle.cure_bodies.specs.Holding.{typing_of, holds_now, Makes, Notes}
use Rattle.cure_bodies.specs.Bodies.{InstrCured, CodeCured}
use Rattle.cure_bodies.specs.Ready.{StaysReady, HasCome, InstrReady, CodeReady, RestReady, BodyReady}
use Rattle.cure_bodies.proofs.Laws.{rewound}
use Rattle.cure_bodies.proofs.Parts.{inside-block, drop-at}

-- behind what failed nothing is made
pub unmade : (P : Piece) (a b : Draft) → b.fine ≡ false → Makes P a b
unfolding Makes
unmade P a b e = λ fine. absurd (cc (e, fine))

pub ready_of : (P : Piece) (R : Type 0) (a b : Draft) → Grows P R a b → StaysReady R a b
unfolding Grows
ready_of P R a b g = g.1

pub noted_ready : (t : Temp) (x : Option HeldType) (a : Draft) (h : Holdings) (b : Draft) (g : Holdings) → Notes t x a h b g → b.ready ≡ a.ready
unfolding Notes
noted_ready t x a h b g n = n.1

-- an instruction that holds no code
pub plain_ready : (i : Instr) (w : World) (h : Holdings) (a b c : Draft) → a.fine ≡ true
    → ((cx : Context) (types less : Typing) → Includes (holds_now h) types → IsShaped i cx types less → StaysReady (CanBeCured i w types) a b)
    → c.ready ≡ b.ready → InstrReady i w h a c
plain_ready i w h a b c fine made same = λ cx blocks types less at s.
    same ∙ made cx types less (at.holds fine) s (can-cure cx w i types less at.curable at.asked s) at.ready

-- what isn't known can't be tested
pub test_known : (T types : Typing) (t : Temp) (o : Option HeldType) → types t ≡ o → Includes T types → IsSome o → T t ≡ None → ⊥
test_known T types t None e more known f = cc (known)
test_known T types t (Some x) e more known f = cc (more t x e, f)

-- Instructions that hold code

curable-inside : (w : World) (c : Context) (entry : Typing) → IsCurable c w → IsCurable (inside c entry) w
curable-inside w c entry r = record {
  inside = record { formed = r.inside.formed; table = r.inside.table; statics = r.inside.statics; variables = r.inside.variables };
  solution = r.solution;
  made = r.made;
  told = r.told;
  tells = record { pointers = r.tells.pointers; objects = r.tells.objects };
  objects = r.objects;
  functions = r.functions;
  sizes = r.sizes;
  number = r.number;
  few = r.few;
}

pub if_ready : (w : World) (t : Temp) (x y : Code) (slot n : ℕ) (h g r : Holdings) (a b c one two left right : Draft) → a.fine ≡ true
    → ((types : Typing) → Includes (holds_now h) types → StaysReady (IsSome (types t)) a b)
    → Starts one → Makes (CodeCured x.0.items w h g) one left → CodeReady x.0.items w h one left
    → n ≡ length h.items.items → r.items.items ≡ take n g.items.items
    → Starts two → two.fine ≡ left.fine → CodeReady y.0.items w r two right
    → Grows (Chosen slot left right) (AreBothReady left right) b c
    → InstrReady (source.If t x y) w h a c
unfolding Starts Makes CodeCured Grows
if_ready w t x y slot n h g r a b c one two left right fine tested s1 m1 first len cut s2 same second chosen = λ cx blocks types less at s.
    let more = at.holds fine in
    let l = first cx blocks types less
    (record { inside = at.inside; curable = at.curable; asked = at.asked; holds = λ f. more; ready = s1.1 }) (shaped-held x cx types less s.1) in
    let back : (f : left.fine ≡ true) → r.items.items ≡ h.items.items = λ f. rewound h g r n (m1 f).1.1.0 len cut in
    let q = second cx blocks types less
    (record {
      inside = at.inside;
      curable = at.curable;
      asked = at.asked;
      holds = λ f. subst (λ z. Includes (typing_of z) types) (sym (back (sym same ∙ f))) more;
      ready = s2.1;
    }) (shaped-held y cx types less s.2) in
    chosen.1 (l, q) (tested types more (subst IsSome (sym s.0.1.1) refl) at.ready)

pub block_ready : (w : World) (x : Code) (h : Holdings) (a c one inner : Draft) → a.fine ≡ true → Starts one → CodeReady x.0.items w h one inner
    → StaysReady (inner.ready ≡ true) a c → InstrReady (source.Block x) w h a c
unfolding Starts
block_ready w x h a c one inner fine s1 made around = λ cx blocks types less at s.
    let entry = s.0 in let p = s.1 in
    let code = shaped-less x.0.items (inside cx entry) types entry less
    (shaped-more x.0.items (inside cx entry) types entry entry p.begins (shaped-held x (inside cx entry) entry entry s.2)) p.ends in
    around (made (inside cx entry) (less ∷ blocks) types less
    (record {
      inside = inside-block w cx blocks entry less at.inside p.ends p.keeps;
      curable = curable-inside w cx entry at.curable;
      asked = at.asked;
      holds = λ f. at.holds fine;
      ready = s1.1;
    }) code) at.ready

pub loop_ready : (w : World) (x : Code) (h : Holdings) (a c one inner : Draft) → a.fine ≡ true → Starts one → CodeReady x.0.items w h one inner
    → StaysReady (inner.ready ≡ true) a c → InstrReady (source.Loop x) w h a c
unfolding Starts
loop_ready w x h a c one inner fine s1 made around = λ cx blocks types less at s.
    let entry = s.0 in let p = s.1 in
    around (made (inside cx entry) (less ∷ blocks) entry entry
    (record {
      inside = inside-block w cx blocks entry less at.inside p.ends p.keeps;
      curable = curable-inside w cx entry at.curable;
      asked = λ u v e. at.asked u v (p.begins u v e);
      holds = λ f u v e. at.holds fine u v (p.begins u v e);
      ready = s1.1;
    }) (shaped-held x (inside cx entry) entry entry s.2)) at.ready

-- Code in order

has-gone : (i : Instr) (w : World) (h g : Holdings) (a b : Draft) → Makes (InstrCured i w h g) a b → InstrReady i w h a b
    → (c : Context) (blocks : List Typing) (types less : Typing) → HasCome w c blocks types h a → IsShaped i c types less → HasCome w c blocks less g b
unfolding Makes InstrCured
has-gone i w h g a b made ready c blocks types less at s = record {
  inside = at.inside;
  curable = at.curable;
  asked = instr-asked i c types less at.curable.tells at.asked s;
  holds = λ fine. let p = made fine in (p.1.1.1 c blocks types less at.inside (at.holds p.0) s).0;
  ready = ready c blocks types less at s;
}

pub rest_begun : (is : List Instr) (w : World) (h : Holdings) (a : Draft) → RestReady is is w h a h a
rest_begun is w h a = λ c blocks types less at s. (types, at, s)

pub rest_next : (whole : List Instr) (n : ℕ) (x : Instr) (w : World) (first h g : Holdings) (a b c : Draft) → n < length whole → x ≡ get_or whole n x
    → RestReady whole (drop n whole) w first a h b → Makes (InstrCured x w h g) b c → InstrReady x w h b c
    → RestReady whole (drop (n + 1) whole) w first a g c
rest_next whole n x w first h g a b c less at rest made ready =
    let e : suc n ≡ n + 1 = omega arith in
    subst (λ m. RestReady whole (drop m whole) w first a g c) e
    (λ cx blocks types after come s.
    let r = rest cx blocks types after come s in
    let q = subst (λ is. AreShaped is cx r.0 after) (drop-at whole n x less at) r.2 in
    (q.0, has-gone x w h g b c made ready cx blocks r.0 q.0 r.1 q.1, q.2))

pub rest_ended : (whole rest : List Instr) (w : World) (first h : Holdings) (a b : Draft) → RestReady whole rest w first a h b → CodeReady whole w first a b
rest_ended whole rest w first h a b come = λ c blocks types less at s. (come c blocks types less at s).1.ready

-- a body begins with nothing known
pub body_ready : (is : List Instr) (w : World) (h : Holdings) (a b : Draft) → CodeReady is w h a b → BodyReady is w a b
body_ready is w h a b made = λ c inside curable shaped ready.
    made c [] no_types no_types
    (record { inside = inside; curable = curable; asked = λ t x e. absurd (cc (e)); holds = λ f t x e. absurd (cc (e)); ready = ready }) shaped

-- A `switch` runs what stands behind its label, as a block does.
use Rattle.std.proofs.Common.{◌≡◌, ℕ, suc, Bool, true, false, nat_le, refl, sym, ap, ◌∙◌, arith}
use Rattle.std.proofs.lemmas.Bool.Decides.{nat_tests}
use Rattle.runs.specs.Outcome.{Outcome, Done, done, from, either, ◌>>=◌, ◌>>◌}
use Rattle.runs.proofs.RunLaws.{from-from, from-same, from-done}
use Rattle.c_tree.specs.TypedTree as typed
use Rattle.c_tree.specs.TypedTree.{TypedExpr, TypedBlockItems}
use Rattle.src_mem.specs.State.{Ending, State, Act, as_integer}
use Rattle.src_machine.specs.World.{World}
use Rattle.src_machine.specs.Expressions.{eval}
use Rattle.src_machine.specs.Statements.{Flow, Normal, Breaks, Continues, Returns, then_do, labels, chosen, runs_from, flow_of_switch, declare, exec, exec_items, exec_piece, exec_before}
use Rattle.src_machine.specs.Switches.{kept, behind, SwitchesRunWhatIsBehind}

-- what follows a flow, and then another piece
then-then : (flow : Flow) (m next : Act Flow) (s : State)
    → then_do flow (m >>= (λ f. then_do f next)) s ≡ from (then_do flow m s) (λ f. then_do f next)
then-then Normal m next s = refl
then-then Breaks m next s = refl
then-then Continues m next s = refl
then-then (Returns v) m next s = refl

then-nothing : (flow : Flow) (s : State) → then_do flow (done Normal) s ≡ Done flow s
then-nothing Normal s = refl
then-nothing Breaks s = refl
then-nothing Continues s = refl
then-nothing (Returns v) s = refl

-- a label's own piece is empty
no-piece : (b : Bool) (flow : Flow) (s : State) → then_do flow (either b (done Normal) (done Normal)) s ≡ Done flow s
no-piece true flow s = then-nothing flow s
no-piece false flow s = then-nothing flow s

behind-less : (k n : ℕ) → nat_le k (suc n) ≡ false → nat_le k n ≡ false
behind-less k n e = grind (arith, nat_tests)

-- what stands before label k doesn't run
skipped : (items : TypedBlockItems) (k : ℕ) (w : World) (s : State) → nat_le k (labels items) ≡ false
    → exec_before items k w s ≡ Done Normal s
skipped typed.NoBlockItem k w s n = refl
skipped (typed.AndStatement all r) k w s n = skipped all k w s n
skipped (typed.AndDeclaration all d) k w s n = skipped all k w s n
skipped (typed.AndCase all at e z) k w s n =
    let m : nat_le k (labels all) ≡ false = behind-less k (labels all) n in
    ap (λ o. from o (λ flow. then_do flow (runs_from k (labels all) (exec_piece all w)))) (skipped all k w s m)
    ∙ ap (λ b. either b (exec_piece all w) (done Normal) s) m
skipped (typed.AndDefault all at) k w s n =
    let m : nat_le k (labels all) ≡ false = behind-less k (labels all) n in
    ap (λ o. from o (λ flow. then_do flow (runs_from k (labels all) (exec_piece all w)))) (skipped all k w s m)
    ∙ ap (λ b. either b (exec_piece all w) (done Normal) s) m

-- the pieces of a block from label k on
abbrev Ran : TypedBlockItems → ℕ → World → State → Outcome Ending State Flow
Ran items k w s = from (exec_before items k w s) (λ flow. then_do flow (runs_from k (labels items) (exec_piece items w)))

-- one thing more in the last piece
more : (items : TypedBlockItems) (k : ℕ) (w : World) (s : State) (next : Act Flow) (b : Bool) → nat_le k (labels items) ≡ b
    → from (exec_before items k w s) (λ flow. then_do flow (either b (exec_piece items w >>= (λ f. then_do f next)) (done Normal)))
    ≡ either b (λ r. from (Ran items k w r) (λ f. then_do f next)) (done Normal) s
more items k w s next true e =
    from-same (exec_before items k w s) _ _ (λ flow r. then-then flow (exec_piece items w) next r)
    ∙ sym (ap (λ b. from (from (exec_before items k w s) (λ flow. then_do flow (either b (exec_piece items w) (done Normal))))
    (λ f. then_do f next)) e
    ∙ from-from (exec_before items k w s) (λ flow. then_do flow (exec_piece items w)) (λ f. then_do f next))
more items k w s next false e = ap (λ o. from o (λ flow. then_do flow (done Normal))) (skipped items k w s e)

kept-runs : (b : Bool) (items : TypedBlockItems) (w : World) (s : State)
    → either b (exec_items items w) (done Normal) s ≡ exec_items (kept b items) w s
kept-runs true items w s = refl
kept-runs false items w s = refl

-- one item more behind the last label
joined : (b : Bool) (all : TypedBlockItems) (k : ℕ) (w : World) (s : State) (next : Act Flow) → Ran all k w s ≡ exec_items (behind k all) w s
    → either b (λ t. from (Ran all k w t) (λ f. then_do f next)) (done Normal) s
    ≡ either b (exec_items (behind k all) w >>= (λ f. then_do f next)) (done Normal) s
joined true all k w s next h = ap (λ o. from o (λ f. then_do f next)) h
joined false all k w s next h = refl

ran : (items : TypedBlockItems) (k : ℕ) (w : World) (s : State) → Ran items k w s ≡ exec_items (behind k items) w s
ran typed.NoBlockItem k w s = no-piece (nat_le k 0) Normal s
ran (typed.AndStatement all r) k w s =
    more all k w s (exec r w) (nat_le k (labels all)) refl ∙ joined (nat_le k (labels all)) all k w s (exec r w) (ran all k w s)
    ∙ kept-runs (nat_le k (labels all)) (typed.AndStatement (behind k all) r) w s
ran (typed.AndDeclaration all d) k w s =
    more all k w s (declare d w >> done Normal) (nat_le k (labels all)) refl
    ∙ joined (nat_le k (labels all)) all k w s (declare d w >> done Normal) (ran all k w s)
    ∙ kept-runs (nat_le k (labels all)) (typed.AndDeclaration (behind k all) d) w s
ran (typed.AndCase all at e z) k w s =
    from-same (Ran all k w s) _ _ (λ flow r. no-piece (nat_le k (suc (labels all))) flow r) ∙ from-done (Ran all k w s) ∙ ran all k w s
ran (typed.AndDefault all at) k w s =
    from-same (Ran all k w s) _ _ (λ flow r. no-piece (nat_le k (suc (labels all))) flow r) ∙ from-done (Ran all k w s) ∙ ran all k w s

pub switches_run : SwitchesRunWhatIsBehind
switches_run at paren e brace items w s =
    from-same (eval e w s) _ _ (λ v r. from-same (as_integer v r) _ _
    (λ z t. ap (λ o. from o (λ flow. done (flow_of_switch flow))) (ran items (chosen items z) w t)))

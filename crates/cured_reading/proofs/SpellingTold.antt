-- What the lines of a program say, one after another, and that each is right where it stands.
use Rattle.std.proofs.Common.{ℕ, zero, suc, inl, inr, ◌+◌, ◌-◌, ◌<◌, ◌≤◌, List, [], ◌∷◌, ◌++◌, ◌≡◌, ◌∙◌, length, map, ap, subst, append_assoc, append-nil, refl, sym, arith}
use Rattle.std.specs.Prelude.{codes, flat_map, IfSome, Some, None, slice_get, slice_index, EachIndex, All, sum_by}
use Rattle.std.specs.List.{AllByRecursion as Each}
use Rattle.std.proofs.lemmas.List.{map-append, length-map, length-append}
use Rattle.std.proofs.lemmas.List.Elements.{All-head, All-tail}
use Rattle.std.proofs.lemmas.List.Sums.{sum_by-cons}
use Rattle.cured_code.specs.declared.instr.Instr.{Instr, Row_of-Instr, end_of-Instr, more_of-Instr}
use Rattle.cured_code.specs.declared.instr.Instr.TheVariants as instr
use Rattle.cured_code.specs.declared.parts.Sig.{Sig}
use Rattle.cured_code.specs.declared.parts.AreaLine.{AreaLine}
use Rattle.cured_code.specs.declared.parts.GlobalLine.{GlobalLine}
use Rattle.cured_code.specs.declared.parts.Function.{Function}
use Rattle.cured_code.specs.declared.parts.Parts.{Parts}
use Rattle.cured_code.specs.Ranges.{Names, IsInRange, IsSigInRange, IsGlobalInRange, IsFunctionInRange, IsInstrInRange, IsRowInRange, AreInstrsInRange, flat_nest_limit, sigs_of, names_in, IsBare, local_bytes_limit, global_bytes_limit}
use Rattle.cured_spelling.specs.Lines.{Line, line, line_text}
use Rattle.cured_spelling.specs.Spelling.{line_of, lines_of, lines_of_row, code_lines, else_line, end_line, sig_line, node_line, area_line, function_line, local_line, body_lines, counted, program_lines, cured_spelling}
use Rattle.cured_spelling.specs.InRange.{IsFieldInRange}
use Rattle.cured_spelling.proofs.Cuts.{each-first, each-second}
use Rattle.cured_reading.specs.declared.sections.Head.{Head}
use Rattle.cured_reading.specs.declared.code.Closing.TheVariants as closing
use Rattle.cured_reading.specs.Faults.{Sigs, Nodes, Globals, Functions, Told, Version, Count, Signature, Node, Area, Fn, Local, Straight, If, Block, Loop, Else, End, Part, Awaited, TheVersion, TheSigs, MoreSigs, MoreNodes, MoreGlobals, MoreFunctions, InBody, Nothing, told_line, told_text, IsStraight, next, IsPlaceKept, IsRight, AreRight, HasSignature, names_of, bodies, functions_left}

-- the fields of a line fit what they are written from
abbrev pub IsLineKept : Line → Type 0
IsLineKept line = Each IsFieldInRange line.fields × IsPlaceKept line.fields

abbrev pub AreLinesKept : List Line → Type 0
AreLinesKept = Each IsLineKept

-- lines in two parts
pub right-append : (s middle after : Awaited) (ts us : List Told) → AreRight s ts middle → AreRight middle us after → AreRight s (ts ++ us) after
right-append s middle after [] us r q = subst (λ a. AreRight a us after) (sym r) q
right-append s middle after (t ∷ ts) us r q = (r.0, right-append (next s t) middle after ts us r.1 q)

-- What instructions say

abbrev mutual
  pub told_of : Instr → List Told
  told_of (instr.If' a s x t y) = If a ∷ (told_of_row x ++ (Else ∷ (told_of_row y ++ (End ∷ []))))
  told_of (instr.Block' s x) = Block ∷ (told_of_row x ++ (End ∷ []))
  told_of (instr.Loop' s x) = Loop ∷ (told_of_row x ++ (End ∷ []))
  told_of i = Straight i ∷ []

  pub told_of_row : {m : _} → Row_of-Instr m → List Told
  told_of_row end_of-Instr = []
  told_of_row (more_of-Instr i rest) = told_of i ++ told_of_row rest

mutual
  instr-lines : (i : Instr) → map told_line (told_of i) ≡ lines_of i
  instr-lines (instr.If' a s x t y) =
      ap (λ l. line (codes "if") (a ∷ []) ∷ l) (map-append told_line (told_of_row x) (Else ∷ (told_of_row y ++ (End ∷ [])))
      ∙ ap (λ l. l ++ (else_line ∷ map told_line (told_of_row y ++ (End ∷ [])))) (row-lines x)
      ∙ ap (λ l. lines_of_row x ++ (else_line ∷ l)) (map-append told_line (told_of_row y) (End ∷ []) ∙ ap (λ l. l ++ (end_line ∷ [])) (row-lines y)))
  instr-lines (instr.Block' s x) =
      ap (λ l. line (codes "block") [] ∷ l) (map-append told_line (told_of_row x) (End ∷ []) ∙ ap (λ l. l ++ (end_line ∷ [])) (row-lines x))
  instr-lines (instr.Loop' s x) =
      ap (λ l. line (codes "loop") [] ∷ l) (map-append told_line (told_of_row x) (End ∷ []) ∙ ap (λ l. l ++ (end_line ∷ [])) (row-lines x))
  instr-lines i = refl

  row-lines : {m : _} (r : Row_of-Instr m) → map told_line (told_of_row r) ≡ lines_of_row r
  row-lines end_of-Instr = refl
  row-lines (more_of-Instr i rest) =
      map-append told_line (told_of i) (told_of_row rest) ∙ ap (λ l. l ++ map told_line (told_of_row rest)) (instr-lines i)
      ∙ ap (λ l. lines_of i ++ l) (row-lines rest)

-- an instruction that holds no others
straight-right : (i : Instr) (part : Part) (parts : List Part) (rest : List Names) → IsStraight i → IsInstrInRange part.names i → IsLineKept (line_of i)
    → IsRight (InBody 0 part parts rest) (Straight i)
straight-right i part parts rest s h k = record {
  stands = (refl, s);
  writable = k.0;
  known = λ o. o;
  limits = λ l p. p;
  range = (h, k.1);
}

end-right : (part : Part) (parts : List Part) (rest : List Names) → part.closing ≡ closing.End → IsRight (InBody 0 part parts rest) End
end-right part parts rest e = record { stands = (refl, e); writable = tt; known = λ o. o; limits = λ l p. p; range = tt }

mutual
  instr-right : (i : Instr) (part : Part) (parts : List Part) (rest : List Names) → IsInstrInRange part.names i → AreLinesKept (lines_of i)
      → AreRight (InBody 0 part parts rest) (told_of i) (InBody 0 part parts rest)
  instr-right (instr.If' a s x t y) part parts rest h k =
      let held = each-first IsLineKept (lines_of_row x) (else_line ∷ (lines_of_row y ++ (end_line ∷ []))) k.1 in
      let after = each-second IsLineKept (lines_of_row x) (else_line ∷ (lines_of_row y ++ (end_line ∷ []))) k.1 in
      let others = each-first IsLineKept (lines_of_row y) (end_line ∷ []) after.1 in
      let first : Part = record { names = record part.names { nest = part.names.nest + 1 }; closing = closing.Else } in
      let second : Part = record { names = record part.names { nest = part.names.nest + 1 }; closing = closing.End } in (
        record { stands = refl; writable = k.0.0; known = λ o. o; limits = λ l p. absurd (let q = p.1 in let lt = h.1 in omega (arith, q, lt)); range = h.0 },
        right-append (InBody 0 first (part ∷ parts) rest) (InBody 0 first (part ∷ parts) rest) (InBody 0 part parts rest) (told_of_row x)
            (Else ∷ (told_of_row y ++ (End ∷ [])))
            (row-right x first (part ∷ parts) rest h.2 held) (
              record { stands = (refl, refl); writable = tt; known = λ o. o; limits = λ l p. p; range = tt },
              right-append (InBody 0 second (part ∷ parts) rest) (InBody 0 second (part ∷ parts) rest) (InBody 0 part parts rest) (told_of_row y) (End ∷ [])
                  (row-right y second (part ∷ parts) rest h.3 others) (end-right second (part ∷ parts) rest refl, refl),
            ),
      )
  instr-right (instr.Block' s x) part parts rest h k =
      let held = each-first IsLineKept (lines_of_row x) (end_line ∷ []) k.1 in
      let inner : Part = record { names = record part.names { blocks = part.names.blocks + 1; nest = part.names.nest + 1 }; closing = closing.End } in (
        record { stands = refl; writable = k.0.0; known = λ o. o; limits = λ l p. absurd (let q = p.1 in let lt = h.0 in omega (arith, q, lt)); range = tt },
        right-append (InBody 0 inner (part ∷ parts) rest) (InBody 0 inner (part ∷ parts) rest) (InBody 0 part parts rest) (told_of_row x) (End ∷ [])
            (row-right x inner (part ∷ parts) rest h.1 held) (end-right inner (part ∷ parts) rest refl, refl),
      )
  instr-right (instr.Loop' s x) part parts rest h k =
      let held = each-first IsLineKept (lines_of_row x) (end_line ∷ []) k.1 in
      let inner : Part = record { names = record part.names { blocks = part.names.blocks + 1; nest = part.names.nest + 1 }; closing = closing.End } in (
        record { stands = refl; writable = k.0.0; known = λ o. o; limits = λ l p. absurd (let q = p.1 in let lt = h.0 in omega (arith, q, lt)); range = tt },
        right-append (InBody 0 inner (part ∷ parts) rest) (InBody 0 inner (part ∷ parts) rest) (InBody 0 part parts rest) (told_of_row x) (End ∷ [])
            (row-right x inner (part ∷ parts) rest h.1 held) (end-right inner (part ∷ parts) rest refl, refl),
      )
  instr-right i part parts rest h k = (straight-right i part parts rest tt h k.0, refl)

  row-right : {m : _} (r : Row_of-Instr m) (part : Part) (parts : List Part) (rest : List Names) → IsRowInRange part.names r → AreLinesKept (lines_of_row r)
      → AreRight (InBody 0 part parts rest) (told_of_row r) (InBody 0 part parts rest)
  row-right end_of-Instr part parts rest h k = refl
  row-right (more_of-Instr i r) part parts rest h k =
      right-append (InBody 0 part parts rest) (InBody 0 part parts rest) (InBody 0 part parts rest) (told_of i) (told_of_row r)
      (instr-right i part parts rest h.0 (each-first IsLineKept (lines_of i) (lines_of_row r) k))
      (row-right r part parts rest h.1 (each-second IsLineKept (lines_of i) (lines_of_row r) k))

code-lines : (is : List Instr) → map told_line (flat_map told_of is) ≡ code_lines is
code-lines [] = refl
code-lines (i ∷ is) =
    map-append told_line (told_of i) (flat_map told_of is) ∙ ap (λ l. l ++ map told_line (flat_map told_of is)) (instr-lines i)
    ∙ ap (λ l. lines_of i ++ l) (code-lines is)

code-right : (is : List Instr) (part : Part) (parts : List Part) (rest : List Names) → AreInstrsInRange part.names is → AreLinesKept (code_lines is)
    → AreRight (InBody 0 part parts rest) (flat_map told_of is) (InBody 0 part parts rest)
code-right [] part parts rest h k = refl
code-right (i ∷ is) part parts rest h k =
    right-append (InBody 0 part parts rest) (InBody 0 part parts rest) (InBody 0 part parts rest) (told_of i) (flat_map told_of is)
    (instr-right i part parts rest (All-head (IsInstrInRange part.names) i is h) (each-first IsLineKept (lines_of i) (code_lines is) k))
    (code-right is part parts rest (All-tail (IsInstrInRange part.names) i is h) (each-second IsLineKept (lines_of i) (code_lines is) k))

-- What sections say

each-line : {A : Type 0} (f : A → Told) (g : A → Line) → ((x : A) → told_line (f x) ≡ g x) → (xs : List A) → map told_line (map f xs) ≡ map g xs
each-line f g h [] = refl
each-line f g h (x ∷ xs) = ap (λ l. l ∷ map told_line (map f xs)) (h x) ∙ ap (λ l. g x ∷ l) (each-line f g h xs)

less-one : (n : ℕ) → n ≡ suc n - 1
less-one n = omega arith

sigs-right : (sigs before : List Sig) → All IsSigInRange sigs → AreLinesKept (map sig_line sigs)
    → AreRight (MoreSigs (length sigs) before) (map Signature sigs) (MoreSigs 0 (before ++ sigs))
sigs-right [] before h k = ap (MoreSigs 0) (sym (append-nil before))
sigs-right (sig ∷ sigs) before h k = (
  record { stands = omega arith; writable = k.0.0; known = λ o. o; limits = λ l p. p; range = All-head IsSigInRange sig sigs h },
  subst (λ n. AreRight (MoreSigs n (before ++ (sig ∷ []))) (map Signature sigs) (MoreSigs 0 (before ++ (sig ∷ sigs)))) (less-one (length sigs))
      (subst (λ all. AreRight (MoreSigs (length sigs) (before ++ (sig ∷ []))) (map Signature sigs) (MoreSigs 0 all)) (append_assoc before (sig ∷ []) sigs)
      (sigs-right sigs (before ++ (sig ∷ [])) (All-tail IsSigInRange sig sigs h) k.1)),
)

nodes-right : (nodes : List ℕ) (sigs : List Sig) (before : ℕ) → ((k : ℕ) → k < length nodes → slice_index nodes k ≤ before + k)
    → AreLinesKept (map node_line nodes)
    → AreRight (MoreNodes (length nodes) sigs before) (map Node nodes) (MoreNodes 0 sigs (before + length nodes))
nodes-right [] sigs before h k = let e : before ≡ before + 0 = omega arith in ap (MoreNodes 0 sigs) e
nodes-right (node ∷ nodes) sigs before h k =
    let here : node ≤ before + 0 = h 0 (omega arith) in
    let size : (before + 1) + length nodes ≡ before + suc (length nodes) = omega arith in (
      record { stands = omega arith; writable = k.0.0; known = λ o. o; limits = λ l p. p; range = omega (arith, here) },
      subst (λ n. AreRight (MoreNodes n sigs (before + 1)) (map Node nodes) (MoreNodes 0 sigs (before + suc (length nodes)))) (less-one (length nodes))
          (subst (λ n. AreRight (MoreNodes (length nodes) sigs (before + 1)) (map Node nodes) (MoreNodes 0 sigs n)) size
          (nodes-right nodes sigs (before + 1) (λ i lt. let there : slice_index nodes i ≤ before + suc i = h (suc i) (omega arith) in omega
          (arith, there)) k.1)),
    )

globals-right : (globals : List GlobalLine) (sigs : List Sig) (nodes left : ℕ) → All IsGlobalInRange globals → sum_by (λ g. g.area.bytes) globals ≤ left
    → AreLinesKept (map area_line globals)
    → (end : ℕ) × AreRight (MoreGlobals (length globals) left sigs nodes) (map Area globals) (MoreGlobals 0 end sigs nodes)
globals-right [] sigs nodes left h sum k = (left, refl)
globals-right (global ∷ globals) sigs nodes left h sum k =
    let whole : sum_by (λ g. g.area.bytes) (global ∷ globals) ≡ global.area.bytes + sum_by (λ g. g.area.bytes) globals = sum_by-cons
    (λ g. g.area.bytes) global globals in
    let after = globals-right globals sigs nodes (left - global.area.bytes) (All-tail IsGlobalInRange global globals h) (omega (arith, whole, sum)) k.1 in (
      after.0,
      (
        record {
          stands = omega arith;
          writable = k.0.0;
          known = λ o. o;
          limits = λ l p. absurd (let q = p.1 in omega (arith, q, whole, sum));
          range = All-head IsGlobalInRange global globals h;
        },
        subst (λ n. AreRight (MoreGlobals n (left - global.area.bytes) sigs nodes) (map Area globals) (MoreGlobals 0 after.0 sigs nodes))
            (less-one (length globals)) after.1,
      ),
    )

abbrev pub head_of_function : Function → Head
head_of_function f = record { sig = f.sig; slots = f.slots; charge = f.charge; areas = length f.locals }

abbrev pub told_function : Function → Told
told_function f = Fn (head_of_function f)

-- what a function's line has to keep, after so many others
record IsHeadKept (sigs : List Sig) (f : Function) : Type 0 where
  there : f.sig < length sigs
  params : IfSome (slice_get sigs f.sig) (λ sig. sig.params ≤ f.slots)
  slots : f.slots ≤ 2048
  areas : length f.locals ≤ 1048576

functions-right : (fs : List Function) (sigs : List Sig) (nodes : ℕ) (before : List Head) → Each (IsHeadKept sigs) fs
    → (length before ≡ 0 → IfSome (slice_get fs 0) (λ f. IfSome (slice_get sigs f.sig) IsBare)) → AreLinesKept (map function_line fs)
    → AreRight (functions_left (length fs) sigs nodes before) (map told_function fs) (functions_left 0 sigs nodes (before ++ map head_of_function fs))
functions-right [] sigs nodes before h first k = ap (functions_left 0 sigs nodes) (sym (append-nil before))
functions-right (f ∷ fs) sigs nodes before h first k =
    let kept = h.0 in
    let later : length (before ++ (head_of_function f ∷ [])) ≡ 0 → IfSome (slice_get fs 0) (λ f. IfSome (slice_get sigs f.sig) IsBare) =
    λ e. absurd (omega (arith, e, length-append before (head_of_function f ∷ []))) in (
      record {
        stands = omega arith;
        writable = k.0.0;
        known = λ o. o;
        limits = λ l p. elim p as (λ v. ⊥) [
          | inl q ↦ absurd (let a = q.1 in let b = kept.slots in omega (arith, a, b))
          | inr q ↦ absurd
              (let a = q.2 in let b = kept.areas in omega (arith, a, b))
        ];
        range = record { there = kept.there; params_held = kept.params; first_bare = first };
      },
      subst (λ n. AreRight (functions_left n sigs nodes (before ++ (head_of_function f ∷ []))) (map told_function fs)
          (functions_left 0 sigs nodes (before ++ (head_of_function f ∷ map head_of_function fs)))) (less-one (length fs))
          (subst (λ all. AreRight (functions_left (length fs) sigs nodes (before ++ (head_of_function f ∷ []))) (map told_function fs)
          (functions_left 0 sigs nodes all))
          (append_assoc before (head_of_function f ∷ []) (map head_of_function fs))
          (functions-right fs sigs nodes (before ++ (head_of_function f ∷ [])) h.1 later k.1)),
    )

-- What bodies say

locals-right : (areas : List AreaLine) (part : Part) (rest : List Names) → All (λ area. area.bytes ≤ local_bytes_limit) areas
    → AreLinesKept (map local_line areas)
    → AreRight (InBody (length areas) part [] rest) (map Local areas) (InBody 0 part [] rest)
locals-right [] part rest h k = refl
locals-right (area ∷ areas) part rest h k =
    let kept = All-head (λ area. area.bytes ≤ local_bytes_limit) area areas h in (
      record { stands = omega arith; writable = k.0.0; known = λ o. o; limits = λ l p. absurd (let q = p.1 in omega (arith, q, kept)); range = tt },
      subst (λ n. AreRight (InBody n part [] rest) (map Local areas) (InBody 0 part [] rest)) (less-one (length areas))
          (locals-right areas part rest (All-tail (λ area. area.bytes ≤ local_bytes_limit) area areas h) k.1),
    )

abbrev pub told_body : Function → List Told
told_body f = map Local f.locals ++ (flat_map told_of f.body.0.items ++ (End ∷ []))

body-lines : (f : Function) → map told_line (told_body f) ≡ body_lines f
body-lines f =
    map-append told_line (map Local f.locals) (flat_map told_of f.body.0.items ++ (End ∷ []))
    ∙ ap (λ l. l ++ map told_line (flat_map told_of f.body.0.items ++ (End ∷ []))) (each-line Local local_line (λ a. refl) f.locals)
    ∙ ap (λ l. map local_line f.locals ++ l) (map-append told_line (flat_map told_of f.body.0.items) (End ∷ []) ∙ ap (λ l. l ++ (end_line ∷ []))
    (code-lines f.body.0.items))

bodies-lines : (fs : List Function) → map told_line (flat_map told_body fs) ≡ flat_map body_lines fs
bodies-lines [] = refl
bodies-lines (f ∷ fs) =
    map-append told_line (told_body f) (flat_map told_body fs) ∙ ap (λ l. l ++ map told_line (flat_map told_body fs)) (body-lines f)
    ∙ ap (λ l. body_lines f ++ l) (bodies-lines fs)

-- the body's instructions are in range of what it may name
record IsBodyKept (names : Function → Names) (f : Function) : Type 0 where
  size : (names f).areas ≡ length f.locals
  bytes : All (λ area. area.bytes ≤ local_bytes_limit) f.locals
  code : AreInstrsInRange (names f) f.body.0.items

body-right : (names : Names) (f : Function) (rest : List Names) → names.areas ≡ length f.locals → All (λ area. area.bytes ≤ local_bytes_limit) f.locals
    → AreInstrsInRange names f.body.0.items → AreLinesKept (body_lines f) → AreRight (bodies (names ∷ rest)) (told_body f) (bodies rest)
body-right names f rest size bytes code k =
    let part : Part = record { names = names; closing = closing.End } in
    let after = each-second IsLineKept (map local_line f.locals) (code_lines f.body.0.items ++ (end_line ∷ [])) k in
    subst (λ n. AreRight (InBody n part [] rest) (told_body f) (bodies rest)) (sym size)
    (right-append (InBody (length f.locals) part [] rest) (InBody 0 part [] rest) (bodies rest) (map Local f.locals)
    (flat_map told_of f.body.0.items ++ (End ∷ []))
    (locals-right f.locals part rest bytes (each-first IsLineKept (map local_line f.locals) (code_lines f.body.0.items ++ (end_line ∷ [])) k))
    (right-append (InBody 0 part [] rest) (InBody 0 part [] rest) (bodies rest) (flat_map told_of f.body.0.items) (End ∷ [])
    (code-right f.body.0.items part [] rest code (each-first IsLineKept (code_lines f.body.0.items) (end_line ∷ []) after))
    (end-right part [] rest refl, refl)))

bodies-right : (names : Function → Names) (fs : List Function) → Each (IsBodyKept names) fs → AreLinesKept (flat_map body_lines fs)
    → AreRight (bodies (map names fs)) (flat_map told_body fs) Nothing
bodies-right names [] h k = refl
bodies-right names (f ∷ fs) h k =
    right-append (bodies (map names (f ∷ fs))) (bodies (map names fs)) Nothing (told_body f) (flat_map told_body fs)
    (body-right (names f) f (map names fs) h.0.size h.0.bytes h.0.code (each-first IsLineKept (body_lines f) (flat_map body_lines fs) k))
    (bodies-right names fs h.1 (each-second IsLineKept (body_lines f) (flat_map body_lines fs) k))

-- The whole program

abbrev pub told_program : Parts → List Told
told_program p =
    Version 1 ∷ ((Count Sigs (length p.sigs) ∷ map Signature p.sigs) ++ ((Count Nodes (length p.nodes) ∷ map Node p.nodes)
    ++ ((Count Globals (length p.globals) ∷ map Area p.globals)
    ++ ((Count Functions (length p.functions) ∷ map told_function p.functions) ++ flat_map told_body p.functions))))

program-lines : (p : Parts) → map told_line (told_program p) ≡ program_lines p
program-lines p =
    let bodies = flat_map told_body p.functions in
    let functions = Count Functions (length p.functions) ∷ map told_function p.functions in
    let globals = Count Globals (length p.globals) ∷ map Area p.globals in
    let nodes = Count Nodes (length p.nodes) ∷ map Node p.nodes in
    let sigs = Count Sigs (length p.sigs) ∷ map Signature p.sigs in
    let e1 : map told_line sigs ≡ counted (codes "sigs") sig_line p.sigs =
    ap (λ l. line (codes "sigs") (length p.sigs ∷ []) ∷ l) (each-line Signature sig_line (λ x. refl) p.sigs) in
    let e2 : map told_line nodes ≡ counted (codes "nodes") node_line p.nodes =
    ap (λ l. line (codes "nodes") (length p.nodes ∷ []) ∷ l) (each-line Node node_line (λ x. refl) p.nodes) in
    let e3 : map told_line globals ≡ counted (codes "globals") area_line p.globals =
    ap (λ l. line (codes "globals") (length p.globals ∷ []) ∷ l) (each-line Area area_line (λ x. refl) p.globals) in
    let e4 : map told_line functions ≡ counted (codes "functions") function_line p.functions =
    ap (λ l. line (codes "functions") (length p.functions ∷ []) ∷ l) (each-line told_function function_line (λ x. refl) p.functions) in
    ap (λ l. line (codes "ccured") (1 ∷ []) ∷ l) (map-append told_line sigs (nodes ++ (globals ++ (functions ++ bodies)))
    ∙ ap (λ l. l ++ map told_line (nodes ++ (globals ++ (functions ++ bodies)))) e1
    ∙ ap (λ l. counted (codes "sigs") sig_line p.sigs ++ l) (map-append told_line nodes (globals ++ (functions ++ bodies))
    ∙ ap (λ l. l ++ map told_line (globals ++ (functions ++ bodies))) e2
    ∙ ap (λ l. counted (codes "nodes") node_line p.nodes ++ l) (map-append told_line globals (functions ++ bodies)
    ∙ ap (λ l. l ++ map told_line (functions ++ bodies)) e3
    ∙ ap (λ l. counted (codes "globals") area_line p.globals ++ l) (map-append told_line functions bodies
    ∙ ap (λ l. l ++ map told_line bodies) e4
    ∙ ap (λ l. counted (codes "functions") function_line p.functions ++ l) (bodies-lines p.functions)))))

told-texts : (ts : List Told) → flat_map told_text ts ≡ flat_map line_text (map told_line ts)
told-texts [] = refl
told-texts (t ∷ ts) = ap (λ l. told_text t ++ l) (told-texts ts)

pub program-text : (p : Parts) → flat_map told_text (told_program p) ≡ cured_spelling p
program-text p = told-texts (told_program p) ∙ ap (flat_map line_text) (program-lines p)

results_read : (sigs : List Sig) (g : ℕ) (P : ℕ → Type 0) → g < length sigs → IfSome (slice_get sigs g) (λ sig. P sig.results)
    → P (slice_index (map (λ sig. sig.results) sigs) g)
results_read [] g P lt h = absurd (omega arith)
results_read (sig ∷ sigs) zero P lt h = h
results_read (sig ∷ sigs) (suc g) P lt h = results_read sigs g P (omega arith) h

same-sigs : (fs : List Function) → sigs_of fs ≡ map (λ h. h.sig) (map head_of_function fs)
same-sigs [] = refl
same-sigs (f ∷ fs) = ap (λ l. f.sig ∷ l) (same-sigs fs)

same-names : (fs : List Function) (names : Head → Names) → map (λ f. names (head_of_function f)) fs ≡ map names (map head_of_function fs)
same-names [] names = refl
same-names (f ∷ fs) names = ap (λ l. names (head_of_function f) ∷ l) (same-names fs names)

heads-kept : (sigs : List Sig) (numbers : List ℕ) (nodes : ℕ) (fs : List Function) → All (IsFunctionInRange sigs numbers nodes) fs → Each (IsHeadKept sigs) fs
heads-kept sigs numbers nodes [] h = tt
heads-kept sigs numbers nodes (f ∷ fs) h =
    let kept = All-head (IsFunctionInRange sigs numbers nodes) f fs h in (
      record { there = kept.known_sig; params = kept.params_held; slots = kept.slots_kept; areas = kept.locals_kept },
      heads-kept sigs numbers nodes fs (All-tail (IsFunctionInRange sigs numbers nodes) f fs h),
    )

bodies-kept : (sigs : List Sig) (nodes : ℕ) (heads : List Head) (fs : List Function) → All (IsFunctionInRange sigs (map (λ h. h.sig) heads) nodes) fs
    → Each (IsBodyKept (λ f. names_of sigs nodes heads (head_of_function f))) fs
bodies-kept sigs nodes heads [] h = tt
bodies-kept sigs nodes heads (f ∷ fs) h =
    let kept = All-head (IsFunctionInRange sigs (map (λ h. h.sig) heads) nodes) f fs h in (
      record {
        size = refl;
        bytes = kept.locals_bytes;
        code = results_read sigs f.sig (λ results. AreInstrsInRange (names_in sigs (map (λ h. h.sig) heads) nodes f results) f.body.0.items)
            kept.known_sig kept.body_kept;
      },
      bodies-kept sigs nodes heads fs (All-tail (IsFunctionInRange sigs (map (λ h. h.sig) heads) nodes) f fs h),
    )

pub program-right : (p : Parts) → IsInRange p → AreLinesKept (program_lines p) → AreRight TheVersion (told_program p) Nothing
program-right p h k =
    let sigs = counted (codes "sigs") sig_line p.sigs in
    let nodes = counted (codes "nodes") node_line p.nodes in
    let globals = counted (codes "globals") area_line p.globals in
    let functions = counted (codes "functions") function_line p.functions in
    let last = flat_map body_lines p.functions in
    let k1 = each-first IsLineKept sigs (nodes ++ (globals ++ (functions ++ last))) k.1 in
    let r1 = each-second IsLineKept sigs (nodes ++ (globals ++ (functions ++ last))) k.1 in
    let k2 = each-first IsLineKept nodes (globals ++ (functions ++ last)) r1 in
    let r2 = each-second IsLineKept nodes (globals ++ (functions ++ last)) r1 in
    let k3 = each-first IsLineKept globals (functions ++ last) r2 in
    let r3 = each-second IsLineKept globals (functions ++ last) r2 in
    let k4 = each-first IsLineKept functions last r3 in
    let k5 = each-second IsLineKept functions last r3 in
    let heads = map head_of_function p.functions in
    let most = h.sigs_count in
    let most2 = h.nodes_count in
    let most3 = h.globals_count in
    let most4 = h.functions_count in
    let some = h.start.there in
    let size = length p.nodes in
    let told_functions = map told_function p.functions in
    let told_bodies = flat_map told_body p.functions in
    let told_globals = map Area p.globals in
    let told_nodes = map Node p.nodes in
    let s4 : Awaited = functions_left 0 p.sigs size heads in
    let g = globals-right p.globals p.sigs size global_bytes_limit h.globals_kept h.globals_bytes k3.1 in
    let in_range : All (IsFunctionInRange p.sigs (map (λ h. h.sig) heads) size) p.functions =
    subst (λ numbers. All (IsFunctionInRange p.sigs numbers size) p.functions) (same-sigs p.functions) h.functions_kept in
    let a5 : AreRight s4 told_bodies Nothing =
    subst (λ all. AreRight (bodies all) told_bodies Nothing) (same-names p.functions (names_of p.sigs size heads))
    (bodies-right (λ f. names_of p.sigs size heads (head_of_function f)) p.functions (bodies-kept p.sigs size heads p.functions in_range) k5) in
    let rest4 = told_functions ++ told_bodies in
    let rest3 = told_globals ++ (Count Functions (length p.functions) ∷ rest4) in
    let rest2 = told_nodes ++ (Count Globals (length p.globals) ∷ rest3) in
    let rest1 = map Signature p.sigs ++ (Count Nodes size ∷ rest2) in
    let a4 : AreRight (functions_left (length p.functions) p.sigs size []) rest4 Nothing =
    right-append (functions_left (length p.functions) p.sigs size []) s4 Nothing told_functions told_bodies
    (functions-right p.functions p.sigs size [] (heads-kept p.sigs (sigs_of p.functions) size p.functions h.functions_kept)
    (λ e. h.start.bare) k4.1) a5 in
    let a3 : AreRight (MoreGlobals (length p.globals) global_bytes_limit p.sigs size) rest3 Nothing =
    right-append (MoreGlobals (length p.globals) global_bytes_limit p.sigs size) (MoreGlobals 0 g.0 p.sigs size) Nothing told_globals
    (Count Functions (length p.functions) ∷ rest4) g.1
    (record { stands = refl; writable = k4.0.0; known = λ o. o; limits = λ l p. absurd (let q = p.1 in omega (arith, q, most4)); range = some }, a4) in
    let a2 : AreRight (MoreNodes size p.sigs 0) rest2 Nothing =
    right-append (MoreNodes size p.sigs 0) (MoreNodes 0 p.sigs size) Nothing told_nodes (Count Globals (length p.globals) ∷ rest3)
    (subst (λ n. AreRight (MoreNodes size p.sigs 0) told_nodes (MoreNodes 0 p.sigs n)) (let e : 0 + size ≡ size = omega arith in e)
    (nodes-right p.nodes p.sigs 0 (λ i lt. let q = h.parents i lt in omega (arith, q)) k2.1))
    (record { stands = refl; writable = k3.0.0; known = λ o. o; limits = λ l p. absurd (let q = p.1 in omega (arith, q, most3)); range = tt }, a3) in
    let a1 : AreRight (MoreSigs (length p.sigs) []) rest1 Nothing =
    right-append (MoreSigs (length p.sigs) []) (MoreSigs 0 p.sigs) Nothing (map Signature p.sigs) (Count Nodes size ∷ rest2)
    (sigs-right p.sigs [] h.sigs_kept k1.1)
    (record { stands = refl; writable = k2.0.0; known = λ o. o; limits = λ l p. absurd (let q = p.1 in omega (arith, q, most2)); range = tt }, a2) in (
      record { stands = tt; writable = k.0.0; known = λ o. o refl; limits = λ l p. p; range = tt },
      (record { stands = tt; writable = k1.0.0; known = λ o. o; limits = λ l p. absurd (let q = p.1 in omega (arith, q, most)); range = tt }, a1),
    )

both-kept : (lines : List Line) → Each (λ line. Each IsFieldInRange line.fields) lines → Each (λ line. IsPlaceKept line.fields) lines → AreLinesKept lines
both-kept [] h k = tt
both-kept (l ∷ lines) h k = ((h.0, k.0), both-kept lines h.1 k.1)

pub lines-kept : (p : Parts) → Each (λ line. Each IsFieldInRange line.fields) (program_lines p) → Each (λ line. IsPlaceKept line.fields) (program_lines p)
    → AreLinesKept (program_lines p)
lines-kept p = both-kept (program_lines p)

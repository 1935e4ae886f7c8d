-- The lines of sections, each where it may stand.
use Rattle.std.proofs.Common.{ℕ, zero, suc, inl, inr, ◌+◌, ◌-◌, ◌<◌, ◌≤◌, List, [], ◌∷◌, ◌++◌, ◌≡◌, ◌∙◌, length, ap, subst, refl, sym, arith}
use Rattle.std.specs.Prelude.{◌^◌, ◌⊎◌, codes}
use Rattle.cured_code.specs.declared.parts.Sig.{Sig}
use Rattle.cured_code.specs.declared.parts.AreaLine.{AreaLine}
use Rattle.cured_code.specs.declared.parts.GlobalLine.{GlobalLine}
use Rattle.cured_code.specs.Ranges.{Names, IsSigInRange, IsGlobalInRange, global_bytes_limit, local_bytes_limit}
use Rattle.cured_spelling.specs.Spelling.{sig_line, node_line, area_line, local_line}
use Rattle.cured_spelling.specs.Lines.{line, line_text}
use Rattle.cured_reading.specs.declared.sections.Head.{Head}
use Rattle.cured_reading.specs.declared.wrong.CuredLimit.{CuredLimit}
use Rattle.cured_reading.specs.declared.wrong.CuredLimit.TheVariants as limit
use Rattle.cured_reading.specs.declared.wrong.Form.TheVariants as form
use Rattle.cured_reading.specs.declared.wrong.Wrong.{Wrong}
use Rattle.cured_reading.specs.declared.wrong.Wrong.TheVariants as wrong
use Rattle.cured_reading.specs.Parts.{Left}
use Rattle.cured_reading.specs.Heads.{head_line}
use Rattle.cured_reading.specs.Faults.{Sigs, Nodes, Globals, Functions, Told, Version, Count, Signature, Node, Area, Fn, Local, Straight, If, Block, Loop, Else, End, Part, Awaited, TheVersion, TheSigs, MoreSigs, MoreNodes, MoreGlobals, MoreFunctions, InBody, IsWritable, MayStand, Passes, HasSignature, functions_left, told_text}
use Rattle.cured_reading.specs.Refusals.{line_of_one, line_of_two, IsMisread, AreRead, IsRefused, IsHeadKept}
use Rattle.cured_reading.proofs.RefusalLaws.{one-read, read-on, read-as, misread-fails, limit-fails, range-fails}

-- The one form that may stand

pub only-version : (t : Told) → MayStand TheVersion t → (n : ℕ) × (t ≡ Version n)
only-version (Version n) h = (n, refl)
only-version t h = absurd h

pub only-sigs : (t : Told) → MayStand TheSigs t → (n : ℕ) × (t ≡ Count Sigs n)
only-sigs (Count Sigs n) h = (n, refl)
only-sigs t h = absurd h

abbrev pub told_sig : ℕ × ℕ → Told
told_sig p = Signature (record { params = p.0; results = p.1 })

pub only-sig : (k : ℕ) (sigs : List Sig) → 0 < k → (t : Told) → MayStand (MoreSigs k sigs) t → (p : ℕ × ℕ) × (t ≡ told_sig p)
only-sig k sigs lt (Signature sig) h = ((sig.params, sig.results), refl)
only-sig k sigs lt (Count Nodes n) h = absurd (omega (arith, lt, h))
only-sig k sigs lt t h = absurd h

pub only-nodes : (sigs : List Sig) (t : Told) → MayStand (MoreSigs 0 sigs) t → (n : ℕ) × (t ≡ Count Nodes n)
only-nodes sigs (Signature sig) h = absurd (omega (arith, h))
only-nodes sigs (Count Nodes n) h = (n, refl)
only-nodes sigs t h = absurd h

pub only-node : (k : ℕ) (sigs : List Sig) (before : ℕ) → 0 < k → (t : Told) → MayStand (MoreNodes k sigs before) t → (n : ℕ) × (t ≡ Node n)
only-node k sigs before lt (Node n) h = (n, refl)
only-node k sigs before lt (Count Globals n) h = absurd (omega (arith, lt, h))
only-node k sigs before lt t h = absurd h

pub only-globals : (sigs : List Sig) (nodes : ℕ) (t : Told) → MayStand (MoreNodes 0 sigs nodes) t → (n : ℕ) × (t ≡ Count Globals n)
only-globals sigs nodes (Node n) h = absurd (omega (arith, h))
only-globals sigs nodes (Count Globals n) h = (n, refl)
only-globals sigs nodes t h = absurd h

pub only-global : (k left : ℕ) (sigs : List Sig) (nodes : ℕ) → 0 < k → (t : Told) → MayStand (MoreGlobals k left sigs nodes) t → (g : GlobalLine) × (t ≡ Area g)
only-global k left sigs nodes lt (Area g) h = (g, refl)
only-global k left sigs nodes lt (Count Functions n) h = absurd (omega (arith, lt, h))
only-global k left sigs nodes lt t h = absurd h

pub only-functions : (left : ℕ) (sigs : List Sig) (nodes : ℕ) (t : Told) → MayStand (MoreGlobals 0 left sigs nodes) t → (n : ℕ) × (t ≡ Count Functions n)
only-functions left sigs nodes (Area g) h = absurd (omega (arith, h))
only-functions left sigs nodes (Count Functions n) h = (n, refl)
only-functions left sigs nodes t h = absurd h

pub only-head : (k : ℕ) (sigs : List Sig) (nodes : ℕ) (heads : List Head) (t : Told) → MayStand (MoreFunctions k sigs nodes heads) t → (h : Head) × (t ≡ Fn h)
only-head k sigs nodes heads (Fn head) h = (head, refl)
only-head k sigs nodes heads t h = absurd h

pub only-local : (k : ℕ) (part : Part) (parts : List Part) (rest : List Names) → 0 < k → (t : Told) → MayStand (InBody k part parts rest) t
    → (area : AreaLine) × (t ≡ Local area)
only-local k part parts rest lt (Local area) h = (area, refl)
only-local k part parts rest lt (Straight i) h = absurd (let e = h.0 in omega (arith, lt, e))
only-local k part parts rest lt (If a) h = absurd (omega (arith, lt, h))
only-local k part parts rest lt Block h = absurd (omega (arith, lt, h))
only-local k part parts rest lt Loop h = absurd (omega (arith, lt, h))
only-local k part parts rest lt Else h = absurd (let e = h.0 in omega (arith, lt, e))
only-local k part parts rest lt End h = absurd (let e = h.0 in omega (arith, lt, e))
only-local k part parts rest lt t h = absurd h

-- A signature

module _ (k : ℕ) (sigs : List Sig) (lt : 0 < k) (a : Left) where
  pub sig-misread : (why : Wrong) (n : ℕ) → IsMisread (λ (p : ℕ × ℕ). sig_line (record { params = p.0; results = p.1 })) a why n → IsRefused (MoreSigs k sigs) a why n
  sig-misread why n m = misread-fails told_sig (MoreSigs k sigs) a why n (only-sig k sigs lt) (λ d. d) m

  pub sig-over : (sig : Sig) (rest : List ℕ) (n : ℕ) → IsWritable (Signature sig) → ((381 < sig.params) ⊎ (3 < sig.results))
      → a.text ≡ line_text (sig_line sig) ++ rest → n ≡ a.number + 1 → IsRefused (MoreSigs k sigs) a (wrong.Form form.Range) n
  sig-over sig rest n w over e place =
      range-fails (MoreSigs k sigs) (Signature sig) a rest n lt w (λ o. o) (λ l p. p) (λ r. let p = r.params_kept in let q = r.results_kept in omega
      (arith, p, q, over)) e place

  pub sig-read : (sig : Sig) (b : Left) → IsWritable (Signature sig) → IsSigInRange sig → a.text ≡ line_text (sig_line sig) ++ b.text
      → b.number ≡ a.number + 1
      → AreRead (MoreSigs k sigs) a (MoreSigs (k - 1) (sigs ++ (sig ∷ []))) b
  sig-read sig b w r e place =
      one-read (MoreSigs k sigs) (Signature sig) a b (record { stands = lt; writable = w; known = λ o. o; limits = λ l p. p; range = r }) e place

-- one signature more
pub next-sig : (n i : ℕ) (sigs more : List Sig) (sig : Sig) (a b c : Left) → i < n → more ≡ sigs ++ (sig ∷ [])
    → AreRead TheSigs a (MoreSigs (n - i) sigs) b
    → ((k : ℕ) (before : List Sig) → 0 < k → AreRead (MoreSigs k before) b (MoreSigs (k - 1) (before ++ (sig ∷ []))) c)
    → AreRead TheSigs a (MoreSigs (n - (i + 1)) more) c
next-sig n i sigs more sig a b c lt e p q =
    let same : n - i - 1 ≡ n - (i + 1) = omega arith in
    read-as TheSigs (MoreSigs (n - i - 1) (sigs ++ (sig ∷ []))) (MoreSigs (n - (i + 1)) more) a c
    (ap (λ k. MoreSigs k (sigs ++ (sig ∷ []))) same ∙ ap (λ l. MoreSigs (n - (i + 1)) l) (sym e))
    (read-on TheSigs (MoreSigs (n - i) sigs) (MoreSigs (n - i - 1) (sigs ++ (sig ∷ []))) a b c p (q (n - i) sigs (omega (arith, lt))))

-- A type node

module _ (k : ℕ) (sigs : List Sig) (before : ℕ) (lt : 0 < k) (a : Left) where
  pub node-misread : (why : Wrong) (n : ℕ) → IsMisread node_line a why n → IsRefused (MoreNodes k sigs before) a why n
  node-misread why n m = misread-fails Node (MoreNodes k sigs before) a why n (only-node k sigs before lt) (λ d. d) m

  pub node-over : (parent : ℕ) (rest : List ℕ) (n : ℕ) → IsWritable (Node parent) → before < parent → a.text ≡ line_text (node_line parent) ++ rest
      → n ≡ a.number + 1 → IsRefused (MoreNodes k sigs before) a (wrong.Form form.Range) n
  node-over parent rest n w over e place =
      range-fails (MoreNodes k sigs before) (Node parent) a rest n lt w (λ o. o) (λ l p. p) (λ r. omega (arith, r, over)) e place

  pub node-read : (parent : ℕ) (b : Left) → IsWritable (Node parent) → parent ≤ before → a.text ≡ line_text (node_line parent) ++ b.text
      → b.number ≡ a.number + 1 → AreRead (MoreNodes k sigs before) a (MoreNodes (k - 1) sigs (before + 1)) b
  node-read parent b w r e place =
      one-read (MoreNodes k sigs before) (Node parent) a b (record { stands = lt; writable = w; known = λ o. o; limits = λ l p. p; range = r }) e place

-- one node more
pub next-node : (n i : ℕ) (sigs : List Sig) (a b c : Left) → i < n → AreRead (MoreSigs 0 sigs) a (MoreNodes (n - i) sigs i) b
    → ((k : ℕ) (sigs : List Sig) → 0 < k → AreRead (MoreNodes k sigs i) b (MoreNodes (k - 1) sigs (i + 1)) c)
    → AreRead (MoreSigs 0 sigs) a (MoreNodes (n - (i + 1)) sigs (i + 1)) c
next-node n i sigs a b c lt p q =
    let same : n - i - 1 ≡ n - (i + 1) = omega arith in
    read-as (MoreSigs 0 sigs) (MoreNodes (n - i - 1) sigs (i + 1)) (MoreNodes (n - (i + 1)) sigs (i + 1)) a c
    (ap (λ k. MoreNodes k sigs (i + 1)) same)
    (read-on (MoreSigs 0 sigs) (MoreNodes (n - i) sigs i) (MoreNodes (n - i - 1) sigs (i + 1)) a b c p (q (n - i) sigs (omega (arith, lt))))

-- An area of a frame

module _ (k : ℕ) (part : Part) (rest : List Names) (lt : 0 < k) (a : Left) where
  pub local-misread : (why : Wrong) (n : ℕ) → IsMisread local_line a why n → IsRefused (InBody k part [] rest) a why n
  local-misread why n m = misread-fails Local (InBody k part [] rest) a why n (only-local k part [] rest lt) (λ d. d) m

  pub local-over : (area : AreaLine) (text : List ℕ) (n : ℕ) → area.bytes < 2 ^ 64 → local_bytes_limit < area.bytes
      → a.text ≡ line_text (local_line area) ++ text
      → n ≡ a.number + 1
      → IsRefused (InBody k part [] rest) a (wrong.TooLarge limit.LocalBytes) n
  local-over area text n small over e place =
      limit-fails (InBody k part [] rest) (Local area) a text n limit.LocalBytes lt (tt, (small, tt)) (refl, over) e place

  pub local-read : (area : AreaLine) (b : Left) → area.bytes < 2 ^ 64 → area.bytes ≤ local_bytes_limit → a.text ≡ line_text (local_line area) ++ b.text
      → b.number ≡ a.number + 1 → AreRead (InBody k part [] rest) a (InBody (k - 1) part [] rest) b
  local-read area b small few e place =
      one-read (InBody k part [] rest) (Local area) a b
      (record { stands = lt; writable = (tt, (small, tt)); known = λ o. o; limits = λ l p. absurd (let q = p.1 in omega (arith, q, few)); range = tt })
      e place

-- one area more
pub next-local : (n i : ℕ) (part : Part) (rest : List Names) (a b c : Left) → i < n → AreRead (InBody n part [] rest) a (InBody (n - i) part [] rest) b
    → ((k : ℕ) (part : Part) (rest : List Names) → 0 < k → AreRead (InBody k part [] rest) b (InBody (k - 1) part [] rest) c)
    → AreRead (InBody n part [] rest) a (InBody (n - (i + 1)) part [] rest) c
next-local n i part rest a b c lt p q =
    let same : n - i - 1 ≡ n - (i + 1) = omega arith in
    read-as (InBody n part [] rest) (InBody (n - i - 1) part [] rest) (InBody (n - (i + 1)) part [] rest) a c
    (ap (λ k. InBody k part [] rest) same)
    (read-on (InBody n part [] rest) (InBody (n - i) part [] rest) (InBody (n - i - 1) part [] rest) a b c p (q (n - i) part rest (omega (arith, lt))))

-- The line of a function

module _ (k : ℕ) (sigs : List Sig) (nodes : ℕ) (heads : List Head) (lt : 0 < k) (a : Left) where
  pub head-misread : (why : Wrong) (n : ℕ) → IsMisread head_line a why n → IsRefused (MoreFunctions k sigs nodes heads) a why n
  head-misread why n m = misread-fails Fn (MoreFunctions k sigs nodes heads) a why n (only-head k sigs nodes heads) (λ d. d) m

  pub slots-over : (head : Head) (text : List ℕ) (n : ℕ) → IsWritable (Fn head) → 2048 < head.slots → a.text ≡ line_text (head_line head) ++ text
      → n ≡ a.number + 1 → IsRefused (MoreFunctions k sigs nodes heads) a (wrong.TooLarge limit.Slots) n
  slots-over head text n w over e place =
      limit-fails (MoreFunctions k sigs nodes heads) (Fn head) a text n limit.Slots lt w (inl (refl, over)) e place

  pub areas-over : (head : Head) (text : List ℕ) (n : ℕ) → IsWritable (Fn head) → head.slots ≤ 2048 → 1048576 < head.areas
      → a.text ≡ line_text (head_line head) ++ text
      → n ≡ a.number + 1
      → IsRefused (MoreFunctions k sigs nodes heads) a (wrong.TooLarge limit.Locals) n
  areas-over head text n w few over e place =
      limit-fails (MoreFunctions k sigs nodes heads) (Fn head) a text n limit.Locals lt w (inr (refl, few, over)) e place

  head-limits : (head : Head) → head.slots ≤ 2048 → head.areas ≤ 1048576 → (l : CuredLimit) → Passes (MoreFunctions k sigs nodes heads) (Fn head) l → ⊥
  head-limits head few kept l (inl p) = let q = p.1 in omega (arith, q, few)
  head-limits head few kept l (inr p) = let q = p.2 in omega (arith, q, kept)

  pub head-over : (head : Head) (text : List ℕ) (n : ℕ) → IsWritable (Fn head) → head.slots ≤ 2048 → head.areas ≤ 1048576
      → (HasSignature sigs (length heads) head → ⊥)
      → a.text ≡ line_text (head_line head) ++ text
      → n ≡ a.number + 1
      → IsRefused (MoreFunctions k sigs nodes heads) a (wrong.Form form.Range) n
  head-over head text n w few kept out e place =
      range-fails (MoreFunctions k sigs nodes heads) (Fn head) a text n lt w (λ o. o) (head-limits head few kept) out e place

  pub head-read : (head : Head) (b : Left) → IsWritable (Fn head) → IsHeadKept sigs (length heads) head → a.text ≡ line_text (head_line head) ++ b.text
      → b.number ≡ a.number + 1 → AreRead (MoreFunctions k sigs nodes heads) a (functions_left (k - 1) sigs nodes (heads ++ (head ∷ []))) b
  head-read head b w r e place =
      one-read (MoreFunctions k sigs nodes heads) (Fn head) a b
      (record { stands = lt; writable = w; known = λ o. o; limits = head-limits head r.slots r.areas; range = r.signature }) e place

pub head-as-read : (number width charge areas sig slots : ℕ) (text rest : List ℕ)
    → text ≡ line_text (line (codes "fn") (number ∷ width ∷ charge ∷ areas ∷ [])) ++ rest → sig ≡ number → slots ≡ width
    → text ≡ line_text (head_line (record { sig = sig; slots = slots; charge = charge; areas = areas })) ++ rest
head-as-read number width charge areas sig slots text rest e f g = rw (f, g) e

pub functions-more : (k : ℕ) (sigs : List Sig) (nodes : ℕ) (heads : List Head) → 0 < k → functions_left k sigs nodes heads ≡ MoreFunctions k sigs nodes heads
functions-more zero sigs nodes heads lt = absurd (omega arith)
functions-more (suc k) sigs nodes heads lt = refl

-- one function more
pub next-head : (s : Awaited) (n i : ℕ) (sigs : List Sig) (nodes : ℕ) (heads more : List Head) (head : Head) (a b c : Left) → i < n
    → more ≡ heads ++ (head ∷ []) → length heads ≡ i
    → AreRead s a (functions_left (n - i) sigs nodes heads) b
    → ((k nodes : ℕ) (heads : List Head) → 0 < k → length heads ≡ i → AreRead (MoreFunctions k sigs nodes heads) b (functions_left (k - 1) sigs nodes (heads ++ (head ∷ []))) c)
    → AreRead s a (functions_left (n - (i + 1)) sigs nodes more) c
next-head s n i sigs nodes heads more head a b c lt e size p q =
    let same : n - i - 1 ≡ n - (i + 1) = omega arith in
    let some : 0 < n - i = omega (arith, lt) in
    read-as s (functions_left (n - i - 1) sigs nodes (heads ++ (head ∷ []))) (functions_left (n - (i + 1)) sigs nodes more) a c
    (ap (λ k. functions_left k sigs nodes (heads ++ (head ∷ []))) same ∙ ap (λ l. functions_left (n - (i + 1)) sigs nodes l) (sym e))
    (read-on s (MoreFunctions (n - i) sigs nodes heads) (functions_left (n - i - 1) sigs nodes (heads ++ (head ∷ []))) a b c
    (read-as s (functions_left (n - i) sigs nodes heads) (MoreFunctions (n - i) sigs nodes heads) a b (functions-more (n - i) sigs nodes heads some) p)
    (q (n - i) nodes heads some size))

-- A global

module _ (k left : ℕ) (sigs : List Sig) (nodes : ℕ) (lt : 0 < k) (a : Left) where
  pub global-misread : (why : Wrong) (n : ℕ) → IsMisread area_line a why n → IsRefused (MoreGlobals k left sigs nodes) a why n
  global-misread why n m = misread-fails Area (MoreGlobals k left sigs nodes) a why n (only-global k left sigs nodes lt) (λ d. d) m

  pub global-over : (global : GlobalLine) (text : List ℕ) (n : ℕ) → IsWritable (Area global) → left < global.area.bytes
      → a.text ≡ line_text (area_line global) ++ text
      → n ≡ a.number + 1
      → IsRefused (MoreGlobals k left sigs nodes) a (wrong.TooLarge limit.Bytes) n
  global-over global text n w over e place =
      limit-fails (MoreGlobals k left sigs nodes) (Area global) a text n limit.Bytes lt w (refl, over) e place

  pub global-out : (global : GlobalLine) (text : List ℕ) (n : ℕ) → IsWritable (Area global) → global.area.bytes ≤ left → (IsGlobalInRange global → ⊥)
      → a.text ≡ line_text (area_line global) ++ text → n ≡ a.number + 1 → IsRefused (MoreGlobals k left sigs nodes) a (wrong.Form form.Range) n
  global-out global text n w few out e place =
      range-fails (MoreGlobals k left sigs nodes) (Area global) a text n lt w (λ o. o) (λ l p. let q = p.1 in omega (arith, q, few)) out e place

  pub global-read : (global : GlobalLine) (b : Left) → IsWritable (Area global) → global.area.bytes ≤ left → IsGlobalInRange global
      → a.text ≡ line_text (area_line global) ++ b.text → b.number ≡ a.number + 1
      → AreRead (MoreGlobals k left sigs nodes) a (MoreGlobals (k - 1) (left - global.area.bytes) sigs nodes) b
  global-read global b w few r e place =
      one-read (MoreGlobals k left sigs nodes) (Area global) a b
      (record { stands = lt; writable = w; known = λ o. o; limits = λ l p. let q = p.1 in omega (arith, q, few); range = r }) e place

-- one global more
pub next-global : (n i left after : ℕ) (sigs : List Sig) (nodes : ℕ) (global : GlobalLine) (a b c : Left) → i < n → after ≡ left - global.area.bytes
    → AreRead (MoreNodes 0 sigs nodes) a (MoreGlobals (n - i) left sigs nodes) b
    → ((k : ℕ) (sigs : List Sig) (nodes : ℕ) → 0 < k → AreRead (MoreGlobals k left sigs nodes) b (MoreGlobals (k - 1) (left - global.area.bytes) sigs nodes) c)
    → AreRead (MoreNodes 0 sigs nodes) a (MoreGlobals (n - (i + 1)) after sigs nodes) c
next-global n i left after sigs nodes global a b c lt e p q =
    let same : n - i - 1 ≡ n - (i + 1) = omega arith in
    read-as (MoreNodes 0 sigs nodes) (MoreGlobals (n - i - 1) (left - global.area.bytes) sigs nodes) (MoreGlobals (n - (i + 1)) after sigs nodes) a c
    (ap (λ k. MoreGlobals k (left - global.area.bytes) sigs nodes) same ∙ ap (λ l. MoreGlobals (n - (i + 1)) l sigs nodes) (sym e))
    (read-on (MoreNodes 0 sigs nodes) (MoreGlobals (n - i) left sigs nodes) (MoreGlobals (n - i - 1) (left - global.area.bytes) sigs nodes) a b c p
    (q (n - i) sigs nodes (omega (arith, lt))))

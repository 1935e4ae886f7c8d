-- What a text begins with is told in one way, so a text has one fault at most, and none where all of its lines are right.
use Rattle.std.proofs.Common.{ℕ, zero, suc, inl, inr, ◌+◌, ◌<◌, List, [], ◌∷◌, ◌++◌, ◌≡◌, ◌∙◌, length, map, ap, subst, append_assoc, refl, sym, arith}
use Rattle.std.specs.Prelude.{codes, flat_map}
use Rattle.cured_code.specs.declared.instr.Instr.{Instr}
use Rattle.cured_code.specs.declared.instr.Instr.TheVariants as instr
use Rattle.cured_spelling.specs.Lines.{Line, line, words_text}
use Rattle.cured_spelling.specs.Spelling.{line_of}
use Rattle.cured_spelling.proofs.Cuts.{cut, AreAbove}
use Rattle.cured_spelling.proofs.FieldLaws.{above-tested}
use Rattle.cured_spelling.proofs.LineLaws.{line_told, words-no_feed}
use Rattle.cured_spelling.proofs.Writings.{IsWritten}
use Rattle.cured_spelling.proofs.WrittenLaws.{first-written, else-written, end-written}
use Rattle.cured_spelling.proofs.Heads.{Head, One, OpensIf, OpensBlock, OpensLoop, TurnsElse, Ends, head, head_of, head-read, number, tag_in, bytes_in, first_of, after_first, first_field, second_field, third_field, fourth_field}
use Rattle.cured_reading.specs.declared.wrong.CuredLimit.{CuredLimit}
use Rattle.cured_reading.specs.declared.wrong.CuredFault.{CuredFault}
use Rattle.cured_reading.specs.declared.wrong.CuredFault.TheVariants as fault
use Rattle.cured_reading.specs.declared.wrong.Form.TheVariants as form
use Rattle.cured_reading.specs.Faults.{Section, Sigs, Nodes, Globals, Functions, Told, Version, Count, Signature, Node, Area, Fn, Local, Straight, If, Block, Loop, Else, End, Awaited, TheVersion, TheSigs, MoreSigs, MoreNodes, MoreGlobals, MoreFunctions, InBody, Nothing, told_line, told_text, IsWritable, IsStraight, MayStand, next, IsOtherVersion, Passes, IsKept, IsRight, AreRight, Begins, IsWrong, IsUncured}

-- What a line says, read back from it where it may stand

unfoldable pub from_head : Head → Told
from_head (One i) = Straight i
from_head (OpensIf a) = If a
from_head OpensBlock = Block
from_head OpensLoop = Loop
from_head TurnsElse = Else
from_head Ends = End

unfoldable pub read_back : Awaited → Line → Told
unfolding from_head first_of after_first number tag_in bytes_in first_field second_field third_field fourth_field
read_back TheVersion l = Version (number (first_field l))
read_back TheSigs l = Count Sigs (number (first_field l))
read_back (MoreSigs zero sigs) l = Count Nodes (number (first_field l))
read_back (MoreSigs (suc k) sigs) l = Signature (record { params = number (first_field l); results = number (second_field l) })
read_back (MoreNodes zero sigs before) l = Count Globals (number (first_field l))
read_back (MoreNodes (suc k) sigs before) l = Node (number (first_field l))
read_back (MoreGlobals zero left sigs nodes) l = Count Functions (number (first_field l))
read_back (MoreGlobals (suc k) left sigs nodes) l =
    Area (record { area = record { tagged = tag_in (first_field l); bytes = number (second_field l) }; first = bytes_in (third_field l) })
read_back (MoreFunctions k sigs nodes heads) l =
    Fn (record { sig = number (first_field l); slots = number (second_field l); charge = number (third_field l); areas = number (fourth_field l) })
read_back (InBody zero part parts rest) l = from_head (head l)
read_back (InBody (suc k) part parts rest) l = Local (record { tagged = tag_in (first_field l); bytes = number (second_field l) })
read_back Nothing l = End

pub straight-head : (i : Instr) → IsStraight i → head_of i ≡ One i
unfolding head_of
straight-head (instr.If' a s x t y) h = absurd h
straight-head (instr.Block' s x) h = absurd h
straight-head (instr.Loop' s x) h = absurd h
straight-head i h = refl

pub read-back : (s : Awaited) (t : Told) → MayStand s t → read_back s (told_line t) ≡ t
unfolding read_back from_head head first_of after_first number tag_in bytes_in first_field second_field third_field fourth_field
read-back TheVersion (Version n) h = refl
read-back TheSigs (Count Sigs n) h = refl
read-back (MoreSigs zero sigs) (Signature sig) h = absurd (omega arith)
read-back (MoreSigs (suc k) sigs) (Signature sig) h = refl
read-back (MoreSigs zero sigs) (Count Nodes n) h = refl
read-back (MoreSigs (suc k) sigs) (Count Nodes n) h = absurd (omega arith)
read-back (MoreNodes zero sigs before) (Node parent) h = absurd (omega arith)
read-back (MoreNodes (suc k) sigs before) (Node parent) h = refl
read-back (MoreNodes zero sigs before) (Count Globals n) h = refl
read-back (MoreNodes (suc k) sigs before) (Count Globals n) h = absurd (omega arith)
read-back (MoreGlobals zero left sigs nodes) (Area global) h = absurd (omega arith)
read-back (MoreGlobals (suc k) left sigs nodes) (Area global) h = refl
read-back (MoreGlobals zero left sigs nodes) (Count Functions n) h = refl
read-back (MoreGlobals (suc k) left sigs nodes) (Count Functions n) h = absurd (omega arith)
read-back (MoreFunctions k sigs nodes heads) (Fn head) h = refl
read-back (InBody zero part parts rest) (Local area) h = absurd (omega arith)
read-back (InBody (suc k) part parts rest) (Local area) h = refl
read-back (InBody zero part parts rest) (Straight i) h = ap from_head (head-read i ∙ straight-head i h.1)
read-back (InBody zero part parts rest) (If a) h = refl
read-back (InBody zero part parts rest) Block h = refl
read-back (InBody zero part parts rest) Loop h = refl
read-back (InBody zero part parts rest) Else h = refl
read-back (InBody zero part parts rest) End h = refl
read-back (InBody (suc k) part parts rest) (Straight i) h = absurd (let e = h.0 in omega (arith, e))
read-back (InBody (suc k) part parts rest) (If a) h = absurd (omega arith)
read-back (InBody (suc k) part parts rest) Block h = absurd (omega arith)
read-back (InBody (suc k) part parts rest) Loop h = absurd (omega arith)
read-back (InBody (suc k) part parts rest) Else h = absurd (let e = h.0 in omega (arith, e))
read-back (InBody (suc k) part parts rest) End h = absurd (let e = h.0 in omega (arith, e))
read-back s t h = absurd h

pub told-written : (t : Told) → IsWritten (told_line t)
told-written (Version n) = record { name = above-tested (codes "ccured") refl; fields = refl }
told-written (Count Sigs n) = record { name = above-tested (codes "sigs") refl; fields = refl }
told-written (Count Nodes n) = record { name = above-tested (codes "nodes") refl; fields = refl }
told-written (Count Globals n) = record { name = above-tested (codes "globals") refl; fields = refl }
told-written (Count Functions n) = record { name = above-tested (codes "functions") refl; fields = refl }
told-written (Signature sig) = record { name = above-tested (codes "sig") refl; fields = refl }
told-written (Node parent) = record { name = above-tested (codes "node") refl; fields = refl }
told-written (Area global) = record { name = above-tested (codes "area") refl; fields = refl }
told-written (Fn head) = record { name = above-tested (codes "fn") refl; fields = refl }
told-written (Local area) = record { name = above-tested (codes "local") refl; fields = refl }
told-written (Straight i) = first-written i
told-written (If a) = record { name = above-tested (codes "if") refl; fields = refl }
told-written Block = record { name = above-tested (codes "block") refl; fields = refl }
told-written Loop = record { name = above-tested (codes "loop") refl; fields = refl }
told-written Else = else-written
told-written End = end-written

-- a line has no line feed within it
pub no_feed : (t : Told) → IsWritable t → AreAbove 10 (words_text (told_line t))
no_feed t w = (words-no_feed (told_line t ∷ []) (told-written t, tt) (w, tt)).0

-- one line says one thing where it stands
pub told_once : (s : Awaited) (t u : Told) → MayStand s t → IsWritable t → MayStand s u → IsWritable u
    → words_text (told_line t) ≡ words_text (told_line u) → t ≡ u
told_once s t u h v k w e =
    sym (read-back s t h) ∙ ap (read_back s) (line_told (told_line t) (told_line u) (told-written t) (told-written u) v w e)
    ∙ read-back s u k

-- so does the first line of a text
pub told_first : (s : Awaited) (t u : Told) (x y : List ℕ) → MayStand s t → IsWritable t → MayStand s u → IsWritable u
    → told_text t ++ x ≡ told_text u ++ y → (t ≡ u) × (x ≡ y)
told_first s t u x y h v k w e =
    let both = cut 10 (words_text (told_line t)) (words_text (told_line u)) x y (no_feed t v) (no_feed u w)
    (sym (append_assoc (words_text (told_line t)) (10 ∷ []) x) ∙ e ∙ append_assoc (words_text (told_line u)) (10 ∷ []) y) in
    (told_once s t u h v k w both.0, both.1)

-- A line that is right isn't wrong

pub none_stands : (t : Told) → MayStand Nothing t → ⊥
none_stands (Version n) h = h
none_stands (Count section n) h = h
none_stands (Signature sig) h = h
none_stands (Node parent) h = h
none_stands (Area global) h = h
none_stands (Fn head) h = h
none_stands (Local area) h = h
none_stands (Straight i) h = h
none_stands (If a) h = h
none_stands Block h = h
none_stands Loop h = h
none_stands Else h = h
none_stands End h = h

same_told : (s : Awaited) (t u : Told) (text rest : List ℕ) → Begins s text t → MayStand s u → IsWritable u → text ≡ told_text u ++ rest → t ≡ u
same_told s t u text rest b k w e = (told_first s t u b.rest rest b.stands b.writable k w (sym b.cut ∙ e)).0

right-not_wrong : (s : Awaited) (u : Told) (text rest : List ℕ) (n : ℕ) (why : CuredFault) → IsRight s u → text ≡ told_text u ++ rest
    → IsWrong s text n why → ⊥
right-not_wrong s u text rest n (fault.Form m form.Version) r e (l, (t, b, o)) =
    r.known (subst IsOtherVersion (same_told s t u text rest b r.stands r.writable e) o)
right-not_wrong s u text rest n (fault.Form m form.Syntax) r e (l, d, none) =
    none u (record { stands = r.stands; writable = r.writable; rest = rest; cut = e })
right-not_wrong s u text rest n (fault.TooLarge m limit) r e (l, (t, b, p)) =
    r.limits limit (subst (λ v. Passes s v limit) (same_told s t u text rest b r.stands r.writable e) p)
right-not_wrong s u text rest n (fault.Form m form.Range) r e (l, (t, b, o, p, out)) =
    out (subst (IsKept s) (sym (same_told s t u text rest b r.stands r.writable e)) r.range)
right-not_wrong s u text rest n fault.NoMemory r e w = w

end-not_wrong : (n : ℕ) (why : CuredFault) → IsWrong Nothing [] n why → ⊥
end-not_wrong n (fault.Form m form.Version) (l, (t, b, o)) = none_stands t b.stands
end-not_wrong n (fault.Form m form.Syntax) (l, d, none) = d refl
end-not_wrong n (fault.TooLarge m limit) (l, (t, b, p)) = none_stands t b.stands
end-not_wrong n (fault.Form m form.Range) (l, (t, b, o, p, out)) = none_stands t b.stands
end-not_wrong n fault.NoMemory w = w

-- right lines up to the end of a text leave no place for a wrong one
pub right-apart : (s after : Awaited) (ts us : List Told) (rest : List ℕ) (n : ℕ) (why : CuredFault) → AreRight s ts after → AreRight s us Nothing
    → flat_map told_text us ≡ flat_map told_text ts ++ rest → IsWrong after rest n why → ⊥
right-apart s after [] [] rest n why r q e w =
    end-not_wrong n why (subst (λ a. IsWrong a [] n why) (sym r ∙ q) (subst (λ t. IsWrong after t n why) (sym e) w))
right-apart s after [] (u ∷ us) rest n why r q e w =
    right-not_wrong s u rest (flat_map told_text us) n why q.0 (sym e) (subst (λ a. IsWrong a rest n why) (sym r) w)
right-apart s after (t ∷ ts) [] rest n why r q e w = none_stands t (subst (λ a. MayStand a t) q r.0.stands)
right-apart s after (t ∷ ts) (u ∷ us) rest n why r q e w =
    let both = told_first s t u (flat_map told_text ts ++ rest) (flat_map told_text us) r.0.stands r.0.writable q.0.stands q.0.writable
    (sym (append_assoc (told_text t) (flat_map told_text ts) rest) ∙ sym e) in
    right-apart (next s t) after ts us rest n why r.1 (subst (λ v. AreRight (next s v) us Nothing) (sym both.0) q.1) (sym both.1) w

-- A text has one fault at most

version-passes_none : (s : Awaited) (t : Told) (l : CuredLimit) → IsOtherVersion t → Passes s t l → ⊥
version-passes_none s (Version n) l o p = p
version-passes_none s t l o p = absurd o

limit_once : (s : Awaited) (t : Told) (l m : CuredLimit) → Passes s t l → Passes s t m → l ≡ m
limit_once s (Count section n) l m p q = p.0 ∙ sym q.0
limit_once (MoreGlobals k left sigs nodes) (Area global) l m p q = p.0 ∙ sym q.0
limit_once s (Fn head) l m (inl p) (inl q) = p.0 ∙ sym q.0
limit_once s (Fn head) l m (inl p) (inr q) = absurd (let a = p.1 in let b = q.1 in omega (arith, a, b))
limit_once s (Fn head) l m (inr p) (inl q) = absurd (let a = p.1 in let b = q.1 in omega (arith, a, b))
limit_once s (Fn head) l m (inr p) (inr q) = p.0 ∙ sym q.0
limit_once s (Local area) l m p q = p.0 ∙ sym q.0
limit_once (InBody k part parts rest) (If a) l m p q = p.0 ∙ sym q.0
limit_once (InBody k part parts rest) Block l m p q = p.0 ∙ sym q.0
limit_once (InBody k part parts rest) Loop l m p q = p.0 ∙ sym q.0
limit_once s t l m p q = absurd p

module _ (s : Awaited) (text : List ℕ) (n : ℕ) where
  one_told : (t u : Told) → Begins s text t → Begins s text u → t ≡ u
  one_told t u b d = same_told s t u text d.rest b d.stands d.writable d.cut

  wrong_once : (f g : CuredFault) → IsWrong s text n f → IsWrong s text n g → f ≡ g
  wrong_once (fault.Form l form.Version) (fault.Form m form.Version) v w = ap (λ k. fault.Form k form.Version) (v.0 ∙ sym w.0)
  wrong_once (fault.Form l form.Version) (fault.Form m form.Syntax) v w = absurd (w.2 v.1.0 v.1.1)
  wrong_once (fault.Form l form.Version) (fault.TooLarge m limit) v w =
      absurd (version-passes_none s v.1.0 limit v.1.2 (subst (λ t. Passes s t limit) (one_told w.1.0 v.1.0 w.1.1 v.1.1) w.1.2))
  wrong_once (fault.Form l form.Version) (fault.Form m form.Range) v w =
      absurd (w.1.2 (subst IsOtherVersion (one_told v.1.0 w.1.0 v.1.1 w.1.1) v.1.2))
  wrong_once (fault.Form l form.Syntax) (fault.Form m form.Version) v w = absurd (v.2 w.1.0 w.1.1)
  wrong_once (fault.Form l form.Syntax) (fault.Form m form.Syntax) v w = ap (λ k. fault.Form k form.Syntax) (v.0 ∙ sym w.0)
  wrong_once (fault.Form l form.Syntax) (fault.TooLarge m limit) v w = absurd (v.2 w.1.0 w.1.1)
  wrong_once (fault.Form l form.Syntax) (fault.Form m form.Range) v w = absurd (v.2 w.1.0 w.1.1)
  wrong_once (fault.TooLarge l limit) (fault.Form m form.Version) v w =
      absurd (version-passes_none s w.1.0 limit w.1.2 (subst (λ t. Passes s t limit) (one_told v.1.0 w.1.0 v.1.1 w.1.1) v.1.2))
  wrong_once (fault.TooLarge l limit) (fault.Form m form.Syntax) v w = absurd (w.2 v.1.0 v.1.1)
  wrong_once (fault.TooLarge l limit) (fault.TooLarge m other) v w =
      ap (λ k. fault.TooLarge k limit) (v.0 ∙ sym w.0)
      ∙ ap (λ k. fault.TooLarge m k) (limit_once s w.1.0 limit other (subst (λ t. Passes s t limit) (one_told v.1.0 w.1.0 v.1.1 w.1.1) v.1.2) w.1.2)
  wrong_once (fault.TooLarge l limit) (fault.Form m form.Range) v w =
      absurd (w.1.3 limit (subst (λ t. Passes s t limit) (one_told v.1.0 w.1.0 v.1.1 w.1.1) v.1.2))
  wrong_once (fault.Form l form.Range) (fault.Form m form.Version) v w =
      absurd (v.1.2 (subst IsOtherVersion (one_told w.1.0 v.1.0 w.1.1 v.1.1) w.1.2))
  wrong_once (fault.Form l form.Range) (fault.Form m form.Syntax) v w = absurd (w.2 v.1.0 v.1.1)
  wrong_once (fault.Form l form.Range) (fault.TooLarge m limit) v w =
      absurd (v.1.3 limit (subst (λ t. Passes s t limit) (one_told w.1.0 v.1.0 w.1.1 v.1.1) w.1.2))
  wrong_once (fault.Form l form.Range) (fault.Form m form.Range) v w = ap (λ k. fault.Form k form.Range) (v.0 ∙ sym w.0)
  wrong_once fault.NoMemory g v w = absurd v
  wrong_once f fault.NoMemory v w = absurd w

next_number : (n k : ℕ) → n + suc k + 1 ≡ (n + 1) + k + 1
next_number n k = omega arith

right_once : (s a b : Awaited) (ts us : List Told) (x y : List ℕ) (n : ℕ) (f g : CuredFault) → AreRight s ts a → AreRight s us b
    → flat_map told_text ts ++ x ≡ flat_map told_text us ++ y → IsWrong a x (n + length ts + 1) f → IsWrong b y (n + length us + 1) g → f ≡ g
right_once s a b [] [] x y n f g r q e v w =
    wrong_once s x (n + 0 + 1) f g (subst (λ c. IsWrong c x (n + 0 + 1) f) (sym r) v)
    (subst (λ c. IsWrong c x (n + 0 + 1) g) (sym q) (subst (λ t. IsWrong b t (n + 0 + 1) g) (sym e) w))
right_once s a b [] (u ∷ us) x y n f g r q e v w =
    absurd (right-not_wrong s u x (flat_map told_text us ++ y) (n + 0 + 1) f q.0 (e ∙ append_assoc (told_text u) (flat_map told_text us) y)
    (subst (λ c. IsWrong c x (n + 0 + 1) f) (sym r) v))
right_once s a b (t ∷ ts) [] x y n f g r q e v w =
    absurd (right-not_wrong s t y (flat_map told_text ts ++ x) (n + 0 + 1) g r.0 (sym e ∙ append_assoc (told_text t) (flat_map told_text ts) x)
    (subst (λ c. IsWrong c y (n + 0 + 1) g) (sym q) w))
right_once s a b (t ∷ ts) (u ∷ us) x y n f g r q e v w =
    let both = told_first s t u (flat_map told_text ts ++ x) (flat_map told_text us ++ y) r.0.stands r.0.writable q.0.stands q.0.writable
    (sym (append_assoc (told_text t) (flat_map told_text ts) x) ∙ e ∙ append_assoc (told_text u) (flat_map told_text us) y) in
    right_once (next s t) a b ts us x y (n + 1) f g r.1 (subst (λ o. AreRight (next s o) us b) (sym both.0) q.1) both.1
    (subst (λ k. IsWrong a x k f) (next_number n (length ts)) v) (subst (λ k. IsWrong b y k g) (next_number n (length us)) w)

pub one_fault : (text : List ℕ) (f g : CuredFault) → IsUncured text f → IsUncured text g → f ≡ g
one_fault text f g p q =
    let first : length p.lines + 1 ≡ 0 + length p.lines + 1 = omega arith in
    let second : length q.lines + 1 ≡ 0 + length q.lines + 1 = omega arith in
    right_once TheVersion p.awaited q.awaited p.lines q.lines p.rest q.rest 0 f g p.right q.right (sym p.cut ∙ q.cut)
    (subst (λ k. IsWrong p.awaited p.rest k f) first p.wrong) (subst (λ k. IsWrong q.awaited q.rest k g) second q.wrong)

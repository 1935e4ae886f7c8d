-- Lines that are right in turn, and what is wrong with the one after them.
use Rattle.std.proofs.Common.{ℕ, ◌+◌, ◌<◌, ◌≤◌, List, [], ◌∷◌, ◌++◌, ◌≡◌, ◌≢◌, ◌∙◌, length, ap, subst, append_assoc, append-nil, refl, sym, arith}
use Rattle.std.specs.Prelude.{flat_map, ◌^◌}
use Rattle.std.proofs.lemmas.List.{length-append}
use Rattle.std.proofs.lemmas.Grind.{flat_map-append}
use Rattle.cured_spelling.specs.Lines.{line_text}
use Rattle.cured_reading.specs.declared.wrong.CuredLimit.{CuredLimit}
use Rattle.cured_reading.specs.declared.wrong.CuredFault.{CuredFault}
use Rattle.cured_reading.specs.declared.wrong.CuredFault.TheVariants as fault
use Rattle.cured_reading.specs.declared.wrong.Form.TheVariants as form
use Rattle.cured_reading.specs.declared.wrong.Wrong.{Wrong}
use Rattle.cured_reading.specs.declared.wrong.Wrong.TheVariants as wrong
use Rattle.cured_reading.specs.Parts.{Left}
use Rattle.cured_reading.specs.Faults.{Section, Told, Count, Awaited, section_name, section_limit, most_lines, told_line, told_text, IsWritable, MayStand, next, IsOtherVersion, Passes, PassesNone, IsKept, IsRight, AreRight, Begins, IsDone, IsWrong, TheVersion, Nothing, IsUncured}
use Rattle.cured_reading.specs.Refusals.{fault_at, line_of_one, IsMisread, IsMiscounted, AreRead, Fails, IsRefused}
use Rattle.cured_reading.proofs.FaultLaws.{none_stands}
use Rattle.cured_reading.proofs.SpellingTold.{right-append}

-- Lines that are right

pub none-read : (s : Awaited) (a : Left) → AreRead s a s a
none-read s a = record { lines = []; cut = refl; counted = omega arith; right = refl }

cut-on : (ts us : List Told) (text middle rest : List ℕ) → text ≡ flat_map told_text ts ++ middle → middle ≡ flat_map told_text us ++ rest
    → text ≡ flat_map told_text (ts ++ us) ++ rest
cut-on ts us text middle rest e f =
    e ∙ ap (λ l. flat_map told_text ts ++ l) f ∙ sym (append_assoc (flat_map told_text ts) (flat_map told_text us) rest)
    ∙ ap (λ l. l ++ rest) (sym (flat_map-append told_text ts us))

pub read-on : (s t u : Awaited) (a b c : Left) → AreRead s a t b → AreRead t b u c → AreRead s a u c
read-on s t u a b c p q = record {
  lines = p.lines ++ q.lines;
  cut = cut-on p.lines q.lines a.text b.text c.text p.cut q.cut;
  counted = omega (arith, p.counted, q.counted, length-append p.lines q.lines);
  right = right-append s t u p.lines q.lines p.right q.right;
}

pub one-read : (s : Awaited) (told : Told) (a b : Left) → IsRight s told → a.text ≡ told_text told ++ b.text → b.number ≡ a.number + 1
    → AreRead s a (next s told) b
one-read s told a b r e n = record {
  lines = told ∷ [];
  cut = e ∙ ap (λ t. t ++ b.text) (sym (append-nil (told_text told)));
  counted = omega (arith, n);
  right = (r, refl);
}

-- the same lines lead to what is awaited by another name
pub read-as : (s t u : Awaited) (a b : Left) → t ≡ u → AreRead s a t b → AreRead s a u b
read-as s t u a b e p = subst (λ v. AreRead s a v b) e p

-- A line that is wrong

pub fails-here : (s : Awaited) (a : Left) (why : CuredFault) → IsWrong s a.text (a.number + 1) why → Fails s a why
fails-here s a why w =
    let place : a.number + 1 ≡ a.number + 0 + 1 = omega arith in record {
      lines = [];
      reached = s;
      rest = a.text;
      cut = refl;
      right = refl;
      wrong = subst (λ n. IsWrong s a.text n why) place w;
    }

pub fails-on : (s t : Awaited) (a b : Left) (why : CuredFault) → AreRead s a t b → Fails t b why → Fails s a why
fails-on s t a b why p q =
    let place : b.number + length q.lines + 1 ≡ a.number + length (p.lines ++ q.lines) + 1 =
    omega (arith, p.counted, length-append p.lines q.lines) in record {
      lines = p.lines ++ q.lines;
      reached = q.reached;
      rest = q.rest;
      cut = cut-on p.lines q.lines a.text b.text q.rest p.cut q.cut;
      right = right-append s t q.reached p.lines q.lines p.right q.right;
      wrong = subst (λ n. IsWrong q.reached q.rest n why) place q.wrong;
    }

pub refused-on : (s t : Awaited) (a b : Left) (why : Wrong) (n : ℕ) → AreRead s a t b → IsRefused t b why n → IsRefused s a why n
refused-on s t a b why n p q = λ no. fails-on s t a b (fault_at why n) p (q no)

pub refused-as : (s : Awaited) (a : Left) (n : ℕ) (why other : Wrong) → why ≡ other → IsRefused s a other n → IsRefused s a why n
refused-as s a n why other e q = subst (λ w. IsRefused s a w n) (sym e) q

-- want of memory is no fault of the text
pub wanted : (s : Awaited) (a : Left) (n : ℕ) → IsRefused s a wrong.NoMemory n
wanted s a n = λ no. absurd (no refl)

pub syntax-fails : (s : Awaited) (a : Left) (why : Wrong) (n : ℕ) → fault_at why n ≡ fault.Form (a.number + 1) form.Syntax → (IsDone s a.text → ⊥)
    → ((t : Told) → Begins s a.text t → ⊥) → IsRefused s a why n
syntax-fails s a why n place done none =
    λ no. subst (λ f. Fails s a f) (sym place) (fails-here s a (fault.Form (a.number + 1) form.Syntax) (refl, done, none))

-- where one form alone may stand, and the line doesn't have it
pub misread-fails : {A : Type 0} (told : A → Told) (s : Awaited) (a : Left) (why : Wrong) (n : ℕ)
    → ((t : Told) → MayStand s t → (x : A) × (t ≡ told x)) → (IsDone s a.text → ⊥) → IsMisread (λ x. told_line (told x)) a why n → IsRefused s a why n
misread-fails told s a why n only done m =
    syntax-fails s a why n m.place done (λ t b.
    let x = only t b.stands in
    m.none x.0 b.rest (subst IsWritable x.1 b.writable) (b.cut ∙ ap (λ u. told_text u ++ b.rest) x.1))

pub limit-fails : (s : Awaited) (told : Told) (a : Left) (rest : List ℕ) (n : ℕ) (l : CuredLimit) → MayStand s told → IsWritable told → Passes s told l
    → a.text ≡ told_text told ++ rest → n ≡ a.number + 1 → IsRefused s a (wrong.TooLarge l) n
limit-fails s told a rest n l stands w p e place =
    λ no. fails-here s a (fault.TooLarge n l) (place, (told, record { stands = stands; writable = w; rest = rest; cut = e }, p))

pub range-fails : (s : Awaited) (told : Told) (a : Left) (rest : List ℕ) (n : ℕ) → MayStand s told → IsWritable told → (IsOtherVersion told → ⊥)
    → PassesNone s told → (IsKept s told → ⊥) → a.text ≡ told_text told ++ rest → n ≡ a.number + 1 → IsRefused s a (wrong.Form form.Range) n
range-fails s told a rest n stands w known limits out e place =
    λ no. fails-here s a (fault.Form n form.Range)
    (place, (told, record { stands = stands; writable = w; rest = rest; cut = e }, known, limits, out))

pub version-fails : (s : Awaited) (told : Told) (a : Left) (rest : List ℕ) (n : ℕ) → MayStand s told → IsWritable told → IsOtherVersion told
    → a.text ≡ told_text told ++ rest → n ≡ a.number + 1 → IsRefused s a (wrong.Form form.Version) n
version-fails s told a rest n stands w other e place =
    λ no. fails-here s a (fault.Form n form.Version) (place, (told, record { stands = stands; writable = w; rest = rest; cut = e }, other))

-- the line of a count

too_large : {line number : ℕ} {l : CuredLimit} → fault.TooLarge line l ≡ fault.Form number form.Syntax → ⊥
too_large e = cc

pub miscounted-fails : (s : Awaited) (section : Section) (a : Left) (why : Wrong) (n : ℕ)
    → ((t : Told) → MayStand s t → (x : ℕ) × (t ≡ Count section x)) → ((x : ℕ) → MayStand s (Count section x)) → (IsDone s a.text → ⊥)
    → IsMiscounted (section_name section) (most_lines section) (section_limit section) a why n → IsRefused s a why n
miscounted-fails s section a (wrong.TooLarge l) n only stands done m =
    limit-fails s (Count section m.2.0) a m.2.1 n l (stands m.2.0) (m.2.3, tt) (m.0, m.2.2) m.2.4 m.1
miscounted-fails s section a wrong.Next n only stands done m = misread-fails (Count section) s a wrong.Next n only done m
miscounted-fails s section a (wrong.Form f) n only stands done m = misread-fails (Count section) s a (wrong.Form f) n only done m
miscounted-fails s section a wrong.NoMemory n only stands done m = wanted s a n

-- a line that has not the form of a count
pub misread-miscounted : (name : List ℕ) (most : ℕ) (limit : CuredLimit) (a : Left) (why : Wrong) (n : ℕ) → IsMisread (line_of_one name) a why n
    → IsMiscounted name most limit a why n
misread-miscounted name most limit a (wrong.TooLarge l) n m = let e = m.place in absurd (too_large e)
misread-miscounted name most limit a wrong.Next n m = m
misread-miscounted name most limit a (wrong.Form f) n m = m
misread-miscounted name most limit a wrong.NoMemory n m = m

pub count-read : (s : Awaited) (section : Section) (n : ℕ) (a b : Left) → MayStand s (Count section n) → n < 2 ^ 64 → n ≤ most_lines section
    → IsKept s (Count section n) → a.text ≡ told_text (Count section n) ++ b.text → b.number ≡ a.number + 1 → AreRead s a (next s (Count section n)) b
count-read s section n a b stands small few kept e place =
    one-read s (Count section n) a b
    (record { stands = stands; writable = (small, tt); known = λ o. o; limits = λ l p. absurd (let q = p.1 in omega (arith, q, few)); range = kept })
    e place

-- The whole text

-- something comes after the last body
pub more-fails : (a : Left) → (a.text ≡ [] → ⊥) → IsRefused Nothing a wrong.Next a.number
more-fails a more = syntax-fails Nothing a wrong.Next a.number refl more (λ t b. none_stands t b.stands)

-- what is found wrong from the first line on is the fault of the text
pub uncured : (text : List ℕ) (a : Left) (why : Wrong) (n : ℕ) → a.text ≡ text → a.number ≡ 0 → IsRefused TheVersion a why n
    → fault_at why n ≢ fault.NoMemory → IsUncured text (fault_at why n)
uncured text a why n same start refused others =
    let f = refused (λ e. others (ap (λ w. fault_at w n) e)) in
    let place : a.number + length f.lines + 1 ≡ length f.lines + 1 = omega (arith, start) in record {
      lines = f.lines;
      awaited = f.reached;
      rest = f.rest;
      cut = sym same ∙ f.cut;
      right = f.right;
      wrong = subst (λ m. IsWrong f.reached f.rest m (fault_at why n)) place f.wrong;
    }

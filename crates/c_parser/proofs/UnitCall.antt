-- From what the rule for units answers to the symbols, to what the call says of a text.
use Rattle.std.proofs.Common.{◌≡◌, ◌≢◌, ℕ, ◌+◌, ◌-◌, ◌≤◌, List, [], ◌∷◌, ◌++◌, length, map, take, drop, refl, sym, ap, ◌∙◌, subst, length-append, append_assoc, arith}
use Rattle.std.proofs.lemmas.List.{length-map, drop-map, take-append-drop}
use Rattle.std.proofs.lemmas.List.Prefix.{front_rest}
use Rattle.cc_base.specs.declared.fault.Fault.{Fault}
use Rattle.cc_base.specs.declared.place.Place.{Place}
use Rattle.cc_base.specs.declared.fault.Fault.TheVariants.{NoMemory}
use Rattle.parse_rules.specs.Parsers.{Answer, Read, Stopped, Reason, Syntax, Unsupported, Deep}
use Rattle.parse_rules.specs.Grammars.{Supported, Each, CanBegin}
use Rattle.parse_rules.specs.Promises.{EndsBefore}
use Rattle.c_lexer.specs.Cut.{Piece, Blank, BlockComment, LineComment, LineMarker, Spelled, AllStand, tokens_of, IsCut, piece_bytes, place_after}
use Rattle.c_lexer.specs.Tokens.{Token}
use Rattle.c_tree.specs.Depth.{unit_height}
use Rattle.c_tree.specs.Symbols.{Symbol, symbol_of}
use Rattle.c_tree.specs.Tree as tree
use Rattle.c_parse_words.specs.Faults.{place_of_first, told, fault_of, IsTold}
use Rattle.c_parse_words.specs.Seen.{reason_of}
use Rattle.c_parse_words.specs.Written.{IsWritten}
use Rattle.c_parse_words.specs.declared.stop.Stop.{Stop}
use Rattle.c_parse_words.specs.declared.stop.Stop.TheVariants as stop
use Rattle.c_expr_parse.specs.Calls.{IsFault}
use Rattle.c_parser.specs.Answers.{SpellsUnit, UnitAnswered}
use Rattle.c_parser.specs.UnitRules.{unit_rule}
use Rattle.c_parser.proofs.UnitPromised.{one_unit, unit_answered}

-- the tokens of a text are written as tokens

written_pieces : (before : List ℕ) (pieces : List Piece) (after : List ℕ) → AllStand before pieces after → Each IsWritten (map symbol_of (tokens_of before pieces))
written_pieces before [] after s = tt
written_pieces before (Blank b ∷ pieces) after s = written_pieces (before ++ piece_bytes (Blank b)) pieces after s.1
written_pieces before (BlockComment body ∷ pieces) after s = written_pieces (before ++ piece_bytes (BlockComment body)) pieces after s.1
written_pieces before (LineComment body ∷ pieces) after s = written_pieces (before ++ piece_bytes (LineComment body)) pieces after s.1
written_pieces before (LineMarker line ∷ pieces) after s = written_pieces (before ++ piece_bytes (LineMarker line)) pieces after s.1
written_pieces before (Spelled kind bytes ∷ pieces) after s =
    (record { bytes = bytes; kind = kind; place = place_after before; is_token = s.0.kind_is; is_symbol = refl }, written_pieces (before ++ bytes) pieces after s.1)

pub cut_written : (text : List ℕ) (tokens : List Token) → IsCut text tokens → Each IsWritten (map symbol_of tokens)
cut_written text tokens cut = subst (λ ts. Each IsWritten (map symbol_of ts)) (sym cut.tokens_are) (written_pieces [] cut.pieces [] cut.stand)

none_some : {A : Type 0} {x : A} {xs : List A} → [] ≡ x ∷ xs → ⊥
none_some e = cc

same_read : {a b : tree.TranslationUnit} {s r : List Symbol} → ◌≡◌ {A = Answer Symbol tree.TranslationUnit} (Read a s) (Read b r) → a ≡ b
same_read e = cc

stopped_read : {why : Reason} {b : tree.TranslationUnit} {s r : List Symbol} → ◌≡◌ {A = Answer Symbol tree.TranslationUnit} (Stopped why s) (Read b r) → ⊥
stopped_read e = cc

each_later : (front rest : List Symbol) → Each IsWritten (front ++ rest) → Each IsWritten rest
each_later [] rest w = w
each_later (x ∷ front) rest w = each_later front rest w.1

-- What is left is what the code counts.

module _ (d : ℕ) (tokens : List Token) where
  abbrev Right : Answer Symbol tree.TranslationUnit → Type 0
  Right = UnitAnswered d (map symbol_of tokens)

  -- the rule answers what is right
  pub unit_right : (ts : List Symbol) → ts ≡ map symbol_of tokens → Right (unit_rule d ts)
  unit_right ts e = subst (λ s. Right (unit_rule d s)) (sym e) (unit_answered d (map symbol_of tokens))

  left_part : (run left : List Symbol) → map symbol_of tokens ≡ run ++ left → left ≡ map symbol_of (drop (length tokens - length left) tokens)
  left_part run left whole =
      let sizes : length tokens ≡ length run + length left = sym (length-map tokens symbol_of) ∙ ap length whole ∙ length-append run left in
      let gone : length run ≡ length tokens - length left = omega arith in
      sym (front_rest (map symbol_of tokens) run left whole) ∙ drop-map symbol_of (length run) tokens ∙ ap (λ n. map symbol_of (drop n tokens)) gone

  stopped_part : (why : Reason) (left : List Symbol) → Right (Stopped why left) → left ≡ map symbol_of (drop (length tokens - length left) tokens)
  stopped_part Syntax left m = left_part m.run left m.is_run.whole
  stopped_part Unsupported left m = left_part m.run left m.is_run.whole
  stopped_part Deep left m = left_part m.before left m.whole

  stops : (text : List ℕ) (why : Reason) (left : List Symbol) → Right (Stopped why left) → IsTold Right text tokens (told why (place_of_first text (drop (length tokens - length left) tokens)))
  stops text why left m = record {
    why = why;
    before = take (length tokens - length left) tokens;
    left = drop (length tokens - length left) tokens;
    whole = sym (take-append-drop (length tokens - length left) tokens);
    right = subst (λ rest. Right (Stopped why rest)) (stopped_part why left m) m;
    told_so = refl;
  }

  pub unit_stopped : (text : List ℕ) (why : Stop) (left : List Symbol) (answer : Answer Symbol tree.TranslationUnit) → Right answer → (why ≢ stop.NoMemory → answer ≡ Stopped (reason_of why) left)
      → IsFault Right text tokens (fault_of why (place_of_first text (drop (length tokens - length left) tokens)))
  unit_stopped text stop.Syntax left answer m e = stops text Syntax left (subst Right (e (λ (same : stop.Syntax ≡ stop.NoMemory). cc)) m)
  unit_stopped text stop.Unsupported left answer m e = stops text Unsupported left (subst Right (e (λ (same : stop.Unsupported ≡ stop.NoMemory). cc)) m)
  unit_stopped text stop.Deep left answer m e = stops text Deep left (subst Right (e (λ (same : stop.Deep ≡ stop.NoMemory). cc)) m)
  unit_stopped text stop.NoMemory left answer m e = tt

  pub unit_refused : (text : List ℕ) (why : Stop) (left : List Symbol) (answer : Answer Symbol tree.TranslationUnit) → Right answer → (why ≢ stop.NoMemory → answer ≡ Stopped (reason_of why) left)
      → (fault : Fault) → fault ≡ fault_of why (place_of_first text (drop (length tokens - length left) tokens)) → IsFault Right text tokens fault
  unit_refused text why left answer m e fault told = subst (IsFault Right text tokens) (sym told) (unit_stopped text why left answer m e)

  -- all the tokens are read
  pub unit_read : (u : tree.TranslationUnit) (left : List Symbol) (answer : Answer Symbol tree.TranslationUnit) → Right answer → answer ≡ Read u left → Right (Read u [])
  unit_read u left answer m e = let right = subst Right e m in record { over = refl; spells = right.spells; low = right.low }

  -- A unit that spells the tokens and is low enough is the one that is read.
  module _ (valid : Each IsWritten (map symbol_of tokens)) (u : tree.TranslationUnit) (spells : SpellsUnit Supported u (map symbol_of tokens)) (low : unit_height u ≤ d) where
    goes_on : (run : List Symbol) (t : Symbol) (more : List Symbol) → map symbol_of tokens ≡ run ++ t ∷ more → CanBegin IsWritten (λ v s. SpellsUnit Supported v s × (unit_height v ≤ d)) (run ++ t ∷ [])
    goes_on run t more whole = record {
      part = u;
      more = more;
      valid = (each_later run (t ∷ more) (subst (Each IsWritten) whole valid)).1;
      spells = (subst (SpellsUnit Supported u) (whole ∙ sym (append_assoc run (t ∷ []) more)) spells, low);
    }

    not_ended : (run rest : List Symbol) → map symbol_of tokens ≡ run ++ rest → EndsBefore IsWritten SpellsUnit Supported run rest → rest ≡ []
    not_ended run [] whole ends = refl
    not_ended run (t ∷ more) whole ends = let b = goes_on run t more whole in absurd (ends (record { part = b.part; more = b.more; valid = b.valid; spells = b.spells.0 }))

    is_read : (answer : Answer Symbol tree.TranslationUnit) → Right answer → answer ≡ Read u []
    is_read (Read v left) m = rw (m.over, one_unit v u (map symbol_of tokens) m.spells spells) refl
    is_read (Stopped Syntax left) m = absurd (m.no_part (not_ended m.run left m.is_run.whole m.is_run.longest) u spells)
    is_read (Stopped Unsupported left) m = absurd (none_some (sym (not_ended m.run left m.is_run.whole m.is_run.longest) ∙ m.place))
    is_read (Stopped Deep left) m = absurd (m.none_low (goes_on m.before m.token m.more (m.whole ∙ ap (λ rest. m.before ++ rest) m.place)))

    pub accepted : (answer : Answer Symbol tree.TranslationUnit) → Right answer → (v : tree.TranslationUnit) (left : List Symbol) → answer ≡ Read v left → v ≡ u
    accepted answer m v left e = same_read (sym e ∙ is_read answer m)

    pub not_stopped : (answer : Answer Symbol tree.TranslationUnit) → Right answer → (why : Stop) (left : List Symbol) → (why ≢ stop.NoMemory → answer ≡ Stopped (reason_of why) left) → why ≡ stop.NoMemory
    not_stopped answer m stop.Syntax left e = absurd (stopped_read (sym (e (λ (same : stop.Syntax ≡ stop.NoMemory). cc)) ∙ is_read answer m))
    not_stopped answer m stop.Unsupported left e = absurd (stopped_read (sym (e (λ (same : stop.Unsupported ≡ stop.NoMemory). cc)) ∙ is_read answer m))
    not_stopped answer m stop.Deep left e = absurd (stopped_read (sym (e (λ (same : stop.Deep ≡ stop.NoMemory). cc)) ∙ is_read answer m))
    not_stopped answer m stop.NoMemory left e = refl

    pub no_memory : (answer : Answer Symbol tree.TranslationUnit) → Right answer → (why : Stop) (left : List Symbol) → (why ≢ stop.NoMemory → answer ≡ Stopped (reason_of why) left)
        → (place : Place) (fault : Fault) → fault ≡ fault_of why place → fault ≡ NoMemory
    no_memory answer m why left e place fault told = told ∙ ap (λ w. fault_of w place) (not_stopped answer m why left e)

-- From what a rule answers to the tokens from one on, to what a call says of a text.
use Rattle.std.proofs.Common.{◌≡◌, ◌≢◌, ℕ, ◌+◌, ◌-◌, ◌≤◌, List, ◌++◌, length, map, take, drop, refl, sym, ap, ◌∙◌, subst, length-append, arith}
use Rattle.std.proofs.lemmas.List.{length-map, length-drop, drop-map, drop-drop, take-append-drop}
use Rattle.std.proofs.lemmas.List.Prefix.{front_rest}
use Rattle.cc_base.specs.declared.fault.Fault.{Fault}
use Rattle.c_lexer.specs.Tokens.{Token}
use Rattle.parse_rules.specs.Parsers.{Answer, Read, Stopped, Reason, Syntax, Unsupported, Deep}
use Rattle.parse_rules.specs.Grammars.{Language}
use Rattle.parse_rules.specs.Promises.{Answered}
use Rattle.c_tree.specs.Symbols.{Symbol, symbol_of}
use Rattle.c_parse_words.specs.Faults.{place_of_first, told, fault_of, IsTold}
use Rattle.c_parse_words.specs.Seen.{reason_of}
use Rattle.c_parse_words.specs.Written.{IsWritten}
use Rattle.c_parse_words.specs.declared.stop.Stop.{Stop}
use Rattle.c_parse_words.specs.declared.stop.Stop.TheVariants as stop
use Rattle.c_expr_parse.specs.Calls.{symbols_from, IsReadTo, IsFault}

-- what is left of the tokens from one on are the tokens from a later one on
record IsLaterPart (tokens : List Token) (from : ℕ) (left : List Symbol) : Type 0 where
  fewer : length left ≤ length tokens
  later : from ≤ length tokens - length left
  left_is : left ≡ symbols_from tokens (length tokens - length left)

module _ (tokens : List Token) (from : ℕ) (inside : from ≤ length tokens) where
  later_part : (run left : List Symbol) → symbols_from tokens from ≡ run ++ left → IsLaterPart tokens from left
  later_part run left whole =
      let sizes : length tokens - from ≡ length run + length left = sym (length-map (drop from tokens) symbol_of ∙ length-drop from tokens) ∙ ap length whole ∙ length-append run left in
      let next : length tokens - length left ≡ from + length run = omega arith in
      let rest : left ≡ symbols_from tokens (from + length run) =
      sym (front_rest (symbols_from tokens from) run left whole) ∙ drop-map symbol_of (length run) (drop from tokens) ∙ ap (map symbol_of) (drop-drop (length run) from tokens) in
      record {
        fewer = omega arith;
        later = omega arith;
        left_is = rest ∙ ap (symbols_from tokens) (sym next);
      }

  module _ {A : Type 0} (In : Language → A → List Symbol → Type 0) (height : A → ℕ) (d : ℕ) where
    abbrev Right : Answer Symbol A → Type 0
    Right = Answered IsWritten In height d (symbols_from tokens from)

    stopped_part : (why : Reason) (left : List Symbol) → Right (Stopped why left) → IsLaterPart tokens from left
    stopped_part Syntax left m = later_part m.run left m.is_run.whole
    stopped_part Unsupported left m = later_part m.run left m.is_run.whole
    stopped_part Deep left m = later_part m.before left m.whole

    read_part : (a : A) (left : List Symbol) → Right (Read a left) → IsLaterPart tokens from left
    read_part a left m = later_part m.run left m.is_run.whole

    -- a part is read
    pub read_inside : (a : A) (left : List Symbol) (answer : Answer Symbol A) → Right answer → answer ≡ Read a left → (n : ℕ) → n ≡ length left → n ≤ length tokens
    read_inside a left answer m e n size = let part = read_part a left (subst Right e m) in let fewer = part.fewer in omega arith

    pub read_to : (a : A) (left : List Symbol) (answer : Answer Symbol A) → Right answer → answer ≡ Read a left → (n : ℕ) → n ≡ length left → IsReadTo Right tokens from a (length tokens - n)
    read_to a left answer m e n size =
        let right : Right (Read a left) = subst Right e m in
        let part = read_part a left right in
        subst (λ n. IsReadTo Right tokens from a (length tokens - n)) (sym size)
        (record { from_there = part.later; in_tokens = omega arith; right = subst (λ rest. Right (Read a rest)) part.left_is right })

    -- reading stops
    stops : (text : List ℕ) (why : Reason) (left : List Symbol) → Right (Stopped why left)
        → IsTold Right text tokens (told why (place_of_first text (drop (length tokens - length left) tokens)))
    stops text why left m =
        let part = stopped_part why left m in
        record {
          why = why;
          before = take (length tokens - length left) tokens;
          left = drop (length tokens - length left) tokens;
          whole = sym (take-append-drop (length tokens - length left) tokens);
          right = subst (λ rest. Right (Stopped why rest)) part.left_is m;
          told_so = refl;
        }

    stopped_so : (text : List ℕ) (why : Stop) (left : List Symbol) (answer : Answer Symbol A) → Right answer → (why ≢ stop.NoMemory → answer ≡ Stopped (reason_of why) left)
        → IsFault Right text tokens (fault_of why (place_of_first text (drop (length tokens - length left) tokens)))
    stopped_so text stop.Syntax left answer m e = stops text Syntax left (subst Right (e (λ other. cc)) m)
    stopped_so text stop.Unsupported left answer m e = stops text Unsupported left (subst Right (e (λ other. cc)) m)
    stopped_so text stop.Deep left answer m e = stops text Deep left (subst Right (e (λ other. cc)) m)
    stopped_so text stop.NoMemory left answer m e = tt

    pub stopped_at : (text : List ℕ) (why : Stop) (left : List Symbol) (answer : Answer Symbol A) → Right answer → (why ≢ stop.NoMemory → answer ≡ Stopped (reason_of why) left)
        → (fault : Fault) → fault ≡ fault_of why (place_of_first text (drop (length tokens - length left) tokens)) → IsFault Right text tokens fault
    stopped_at text why left answer m e fault told = subst (IsFault Right text tokens) (sym told) (stopped_so text why left answer m e)

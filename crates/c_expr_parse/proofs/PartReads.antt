-- The spellings of array and function parts lead to them.
use Rattle.std.proofs.Common.{◌≡◌, ℕ, ◌≤◌, true, false, List, [], ◌∷◌, ◌++◌, map, refl, sym, subst, append_assoc, arith}
use Rattle.std.proofs.lemmas.Bool.{and_parts}
use Rattle.cc_base.specs.declared.place.Place.{Place}
use Rattle.c_lexer.specs.declared.word.Keyword.{Keyword}
use Rattle.c_lexer.specs.declared.word.Keyword.TheVariants as keyword
use Rattle.c_lexer.specs.declared.punctuator.Punctuator.TheVariants as mark
use Rattle.parse_rules.specs.Parsers.{Answer, Read, Parser, next, loop}
use Rattle.parse_rules.specs.Grammars.{Language}
use Rattle.parse_rules.proofs.Completeness.{LeadsTo, equal, ◌▷◌, leads_next, leads_passes, leads_loop}
use Rattle.c_tree.specs.declared.leaf.Word.{Word as PlacedWord}
use Rattle.c_tree.specs.declared.leaf.Separator.TheVariants as separator
use Rattle.c_tree.specs.Depth.{expr_height, parameters_height, parts_height}
use Rattle.c_tree.specs.Grammar.{WithName, IsExpr, AreParameters, AreParts, level}
use Rattle.c_tree.specs.Spelling.{word_symbol, expr_spelling, parameters_spelling, parts_spelling, close_bracket, close_paren}
use Rattle.c_tree.specs.Symbols.{Symbol, Mark, Bare}
use Rattle.c_tree.specs.Tree as tree
use Rattle.c_tree.specs.Words.{TypeNames, is_qualifier, is_static_word, are_qualifiers, end_in_static, are_array_words, has_static}
use Rattle.c_parse_words.specs.Tests.{begins_part}
use Rattle.c_parse_words.proofs.Starts.{expr_starts}
use Rattle.c_parse_words.proofs.WordReads.{words_read, expr_no_word}
use Rattle.c_expr_parse.specs.DeclaratorRules.{part_step, with_part, array_part, without_size, function_part}
use Rattle.c_expr_parse.specs.Rules.{rules}
use Rattle.c_expr_parse.proofs.Complete.{InnerReads}
use Rattle.c_expr_parse.proofs.Declarators.{part_steps}
use Rattle.c_expr_parse.proofs.ExprReads.{bare_expr}
use Rattle.c_expr_parse.proofs.Kept.{InnerKeeps}
use Rattle.c_expr_parse.proofs.TypeNameReads.{parameters_read}

-- Qualifiers alone are words of an array part.

not_static : (word : Keyword) → is_qualifier word ≡ true → is_static_word word ≡ false
not_static keyword.Static e = cc
not_static word e = refl

qualifiers_end : (words : List PlacedWord) → are_qualifiers words ≡ true → end_in_static words ≡ true
qualifiers_end [] e = refl
qualifiers_end (word ∷ words) e =
    let parts = and_parts (is_qualifier word.keyword) (are_qualifiers words) e in
    rw (not_static word.keyword parts.0, parts.0, qualifiers_end words parts.1) refl

qualifiers_fit : (words : List PlacedWord) → are_qualifiers words ≡ true → are_array_words words ≡ true
qualifiers_fit [] e = refl
qualifiers_fit (word ∷ words) e =
    let parts = and_parts (is_qualifier word.keyword) (are_qualifiers words) e in
    rw (not_static word.keyword parts.0, parts.0, qualifiers_end words parts.1) refl

qualifiers_no_static : (words : List PlacedWord) → are_qualifiers words ≡ true → has_static words ≡ false
qualifiers_no_static [] e = refl
qualifiers_no_static (word ∷ words) e =
    let parts = and_parts (is_qualifier word.keyword) (are_qualifiers words) e in
    rw (not_static word.keyword parts.0, qualifiers_no_static words parts.1) refl

-- One part.

abbrev pub parts_loop : TypeNames → ℕ → tree.Parts → Parser Symbol tree.Parts
parts_loop names d = loop (λ _. begins_part) (part_step names (rules names d))

module _ (names : TypeNames) (d : ℕ) (keeps : InnerKeeps names d) (inner : InnerReads names d) (g : Language) where
  array_goes : (before : tree.Parts) (at : Place) (words : List PlacedWord) (rest : List Symbol) → are_qualifiers words ≡ true
      → LeadsTo g (part_step names (rules names d) before (Mark mark.OpenBracket at ∷ (map word_symbol words ++ Bare separator.CloseBracket ∷ rest))) (Read (tree.AndArray before at words) rest)
  unfolding part_step with_part array_part without_size
  array_goes before at words rest w =
      leads_next _ (words_read d g [] words (Bare separator.CloseBracket ∷ rest) (qualifiers_fit words w) refl) (rw (qualifiers_no_static words w) (equal refl))

  sized_array_goes : (before : tree.Parts) (at : Place) (words : List PlacedWord) (e : tree.Expr) (rest : List Symbol) → are_array_words words ≡ true → IsExpr g names e → 1 ≤ level e → expr_height e ≤ d
      → LeadsTo g (part_step names (rules names d) before (Mark mark.OpenBracket at ∷ (map word_symbol words ++ (expr_spelling e ++ Bare separator.CloseBracket ∷ rest)))) (Read (tree.AndSizedArray before at words e) rest)
  unfolding part_step with_part array_part
  sized_array_goes before at words e rest w we fits low =
      leads_next _ (words_read d g [] words (expr_spelling e ++ Bare separator.CloseBracket ∷ rest) w (expr_no_word names words _ (expr_starts g names e we (Bare separator.CloseBracket ∷ rest))))
      (leads_passes _ (expr_starts g names e we (Bare separator.CloseBracket ∷ rest))
      (leads_next _ (inner.expr g 1 e (Bare separator.CloseBracket ∷ rest) (omega arith) we fits low (bare_expr 1 separator.CloseBracket refl)) (equal refl)))

  pub function_reads : (before : tree.Parts) (at : Place) (x : tree.Parameters) (rest : List Symbol) → AreParameters g names x → parameters_height x ≤ d
      → LeadsTo g (function_part names (rules names d) before at (parameters_spelling x ++ Bare separator.CloseParen ∷ rest)) (Read (tree.AndFunction before at x) rest)
  unfolding function_part
  function_reads before at x rest w low = leads_next _ (parameters_read names d keeps inner g x rest w low) (equal refl)

  function_goes : (before : tree.Parts) (at : Place) (x : tree.Parameters) (rest : List Symbol) → AreParameters g names x → parameters_height x ≤ d
      → LeadsTo g (part_step names (rules names d) before (Mark mark.OpenParen at ∷ (parameters_spelling x ++ Bare separator.CloseParen ∷ rest))) (Read (tree.AndFunction before at x) rest)
  unfolding part_step with_part
  function_goes before at x rest w low = function_reads before at x rest w low

  -- Parts one after another: from how the parts before are reached.

  abbrev pub Reached : (List Symbol → Answer Symbol tree.Parts) → tree.Parts → Type 0
  Reached start x = (rest : List Symbol) → LeadsTo g (start (parts_spelling x ++ rest)) (parts_loop names d x rest)

  then_array : (start : List Symbol → Answer Symbol tree.Parts) (before : tree.Parts) (at : Place) (words : List PlacedWord) → Reached start before → are_qualifiers words ≡ true → Reached start (tree.AndArray before at words)
  then_array start before at words h w rest =
      subst (λ s. LeadsTo g (start s) (parts_loop names d (tree.AndArray before at words) rest)) (sym flat)
      (h (Mark mark.OpenBracket at ∷ (map word_symbol words ++ Bare separator.CloseBracket ∷ rest))
      ▷ leads_loop (part_steps keeps WithName [] tree.Unnamed) before (Mark mark.OpenBracket at ∷ (map word_symbol words ++ Bare separator.CloseBracket ∷ rest)) tt refl (array_goes before at words rest w))
    where
      flat : (parts_spelling before ++ Mark mark.OpenBracket at ∷ (map word_symbol words ++ close_bracket)) ++ rest ≡ parts_spelling before ++ Mark mark.OpenBracket at ∷ (map word_symbol words ++ Bare separator.CloseBracket ∷ rest)
      flat = simp append_assoc

  then_sized_array : (start : List Symbol → Answer Symbol tree.Parts) (before : tree.Parts) (at : Place) (words : List PlacedWord) (e : tree.Expr) → Reached start before
      → are_array_words words ≡ true → IsExpr g names e → 1 ≤ level e → expr_height e ≤ d → Reached start (tree.AndSizedArray before at words e)
  then_sized_array start before at words e h w we fits low rest =
      subst (λ s. LeadsTo g (start s) (parts_loop names d (tree.AndSizedArray before at words e) rest)) (sym flat)
      (h (Mark mark.OpenBracket at ∷ (map word_symbol words ++ (expr_spelling e ++ Bare separator.CloseBracket ∷ rest)))
      ▷ leads_loop (part_steps keeps WithName [] tree.Unnamed) before (Mark mark.OpenBracket at ∷ (map word_symbol words ++ (expr_spelling e ++ Bare separator.CloseBracket ∷ rest))) tt refl (sized_array_goes before at words e rest w we fits low))
    where
      flat : (parts_spelling before ++ Mark mark.OpenBracket at ∷ (map word_symbol words ++ (expr_spelling e ++ close_bracket))) ++ rest
          ≡ parts_spelling before ++ Mark mark.OpenBracket at ∷ (map word_symbol words ++ (expr_spelling e ++ Bare separator.CloseBracket ∷ rest))
      flat = simp append_assoc

  then_function : (start : List Symbol → Answer Symbol tree.Parts) (before : tree.Parts) (at : Place) (x : tree.Parameters) → Reached start before → AreParameters g names x → parameters_height x ≤ d
      → Reached start (tree.AndFunction before at x)
  then_function start before at x h w low rest =
      subst (λ s. LeadsTo g (start s) (parts_loop names d (tree.AndFunction before at x) rest)) (sym flat)
      (h (Mark mark.OpenParen at ∷ (parameters_spelling x ++ Bare separator.CloseParen ∷ rest))
      ▷ leads_loop (part_steps keeps WithName [] tree.Unnamed) before (Mark mark.OpenParen at ∷ (parameters_spelling x ++ Bare separator.CloseParen ∷ rest)) tt refl (function_goes before at x rest w low))
    where
      flat : (parts_spelling before ++ Mark mark.OpenParen at ∷ (parameters_spelling x ++ close_paren)) ++ rest ≡ parts_spelling before ++ Mark mark.OpenParen at ∷ (parameters_spelling x ++ Bare separator.CloseParen ∷ rest)
      flat = simp append_assoc

  pub parts_lead : (x : tree.Parts) → AreParts g names x → parts_height x ≤ d → Reached (parts_loop names d tree.NoPart) x
  parts_lead tree.NoPart w low = λ rest. equal refl
  parts_lead (tree.AndArray before at words) w low = then_array (parts_loop names d tree.NoPart) before at words (parts_lead before w.0 low) w.1
  parts_lead (tree.AndSizedArray before at words e) w low = then_sized_array (parts_loop names d tree.NoPart) before at words e (parts_lead before w.0 (omega arith)) w.1 w.2 w.3 (omega arith)
  parts_lead (tree.AndFunction before at x) w low = then_function (parts_loop names d tree.NoPart) before at x (parts_lead before w.0 (omega arith)) w.1 (omega arith)

-- How parts begin.

pub data FirstPart : Type 0 where
  NothingFirst : FirstPart
  ArrayFirst : Place → FirstPart
  FunctionFirst : Place → tree.Parameters → FirstPart

abbrev pub first_part : tree.Parts → FirstPart
first_part tree.NoPart = NothingFirst
first_part (tree.AndArray tree.NoPart at words) = ArrayFirst at
first_part (tree.AndArray before at words) = first_part before
first_part (tree.AndSizedArray tree.NoPart at words e) = ArrayFirst at
first_part (tree.AndSizedArray before at words e) = first_part before
first_part (tree.AndFunction tree.NoPart at x) = FunctionFirst at x
first_part (tree.AndFunction before at x) = first_part before

abbrev pub after_open : List Symbol → List Symbol
after_open [] = []
after_open (t ∷ ts) = ts

module _ (names : TypeNames) (d : ℕ) (keeps : InnerKeeps names d) (inner : InnerReads names d) (g : Language) where
  -- the parts from a function part on whose `(` was read before
  abbrev pub from_function : Place → List Symbol → Answer Symbol tree.Parts
  from_function at ts = next (function_part names (rules names d) tree.NoPart at (after_open ts)) (parts_loop names d)

  first_function : (at : Place) (x : tree.Parameters) → AreParameters g names x → parameters_height x ≤ d → Reached names d keeps inner g (from_function at) (tree.AndFunction tree.NoPart at x)
  first_function at x w low rest = rw (append_assoc (parameters_spelling x) close_paren rest) (leads_next _ (function_reads names d keeps inner g tree.NoPart at x rest w low) (equal refl))

  pub function_lead : (x : tree.Parts) (open_ : Place) (y : tree.Parameters) → AreParts g names x → parts_height x ≤ d → first_part x ≡ FunctionFirst open_ y → Reached names d keeps inner g (from_function open_) x
  function_lead tree.NoPart open_ y w low e = cc
  function_lead (tree.AndArray tree.NoPart at words) open_ y w low e = cc
  function_lead (tree.AndSizedArray tree.NoPart at words e') open_ y w low e = cc
  function_lead (tree.AndFunction tree.NoPart at x) open_ y w low e =
      let same : at ≡ open_ = cc in
      subst (λ p. Reached names d keeps inner g (from_function p) (tree.AndFunction tree.NoPart at x)) same (first_function at x w.1 (omega arith))
  function_lead (tree.AndArray (tree.AndArray before place words') at words) open_ y w low e =
      then_array names d keeps inner g (from_function open_) (tree.AndArray before place words') at words (function_lead (tree.AndArray before place words') open_ y w.0 (omega arith) e) w.1
  function_lead (tree.AndSizedArray (tree.AndArray before place words') at words size) open_ y w low e =
      then_sized_array names d keeps inner g (from_function open_) (tree.AndArray before place words') at words size (function_lead (tree.AndArray before place words') open_ y w.0 (omega arith) e) w.1 w.2 w.3 (omega arith)
  function_lead (tree.AndFunction (tree.AndArray before place words') at x) open_ y w low e =
      then_function names d keeps inner g (from_function open_) (tree.AndArray before place words') at x (function_lead (tree.AndArray before place words') open_ y w.0 (omega arith) e) w.1 (omega arith)
  function_lead (tree.AndArray (tree.AndSizedArray before place words' e') at words) open_ y w low e =
      then_array names d keeps inner g (from_function open_) (tree.AndSizedArray before place words' e') at words (function_lead (tree.AndSizedArray before place words' e') open_ y w.0 (omega arith) e) w.1
  function_lead (tree.AndSizedArray (tree.AndSizedArray before place words' e') at words size) open_ y w low e =
      then_sized_array names d keeps inner g (from_function open_) (tree.AndSizedArray before place words' e') at words size (function_lead (tree.AndSizedArray before place words' e') open_ y w.0 (omega arith) e) w.1 w.2 w.3 (omega arith)
  function_lead (tree.AndFunction (tree.AndSizedArray before place words' e') at x) open_ y w low e =
      then_function names d keeps inner g (from_function open_) (tree.AndSizedArray before place words' e') at x (function_lead (tree.AndSizedArray before place words' e') open_ y w.0 (omega arith) e) w.1 (omega arith)
  function_lead (tree.AndArray (tree.AndFunction before place x') at words) open_ y w low e =
      then_array names d keeps inner g (from_function open_) (tree.AndFunction before place x') at words (function_lead (tree.AndFunction before place x') open_ y w.0 (omega arith) e) w.1
  function_lead (tree.AndSizedArray (tree.AndFunction before place x') at words size) open_ y w low e =
      then_sized_array names d keeps inner g (from_function open_) (tree.AndFunction before place x') at words size (function_lead (tree.AndFunction before place x') open_ y w.0 (omega arith) e) w.1 w.2 w.3 (omega arith)
  function_lead (tree.AndFunction (tree.AndFunction before place x') at x) open_ y w low e =
      then_function names d keeps inner g (from_function open_) (tree.AndFunction before place x') at x (function_lead (tree.AndFunction before place x') open_ y w.0 (omega arith) e) w.1 (omega arith)

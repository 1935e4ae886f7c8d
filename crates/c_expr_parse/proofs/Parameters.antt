-- What the rules for parameters keep (C99 6.7.5.3).
use Rattle.std.proofs.Common.{◌≡◌, ℕ, ◌≤◌, Bool, true, false, List, [], ◌++◌, refl, sym, ◌∙◌, subst, append_assoc, append-nil, true≢false, arith}
use Rattle.parse_rules.specs.Parsers.{first, skip, loop, ◌>>=◌, ◌>>◌}
use Rattle.parse_rules.specs.Grammars.{Language, Any}
use Rattle.parse_rules.specs.Rules.{Rule}
use Rattle.parse_rules.proofs.Combinators.{rule_pure, rule_bind, rule_seq, rule_branch, rule_weaker, rule_skip_the}
use Rattle.parse_rules.proofs.Loops.{Steps, rule_loop}
use Rattle.c_tree.specs.declared.leaf.Separator.TheVariants as separator
use Rattle.c_tree.specs.Depth.{parameters_height}
use Rattle.c_tree.specs.Grammar.{WithOrWithout, AreParameters}
use Rattle.c_tree.specs.Spelling.{comma, parameters_spelling, before_parameter}
use Rattle.c_tree.specs.Symbols.{Symbol, Bare}
use Rattle.c_tree.specs.Tree as tree
use Rattle.c_tree.specs.Words.{TypeNames, InBlock}
use Rattle.c_parse_words.specs.Spells.{Spells}
use Rattle.c_parse_words.specs.Tests.{is_comma, begins_specifier}
use Rattle.c_parse_words.specs.Written.{IsWritten}
use Rattle.c_parse_words.proofs.TokenLaws.{comma_here}
use Rattle.c_expr_parse.specs.DeclaratorRules.{next_parameter, parameters}
use Rattle.c_expr_parse.specs.Rules.{rules}
use Rattle.c_expr_parse.proofs.ExprLaws.{keeps_declared}
use Rattle.c_expr_parse.proofs.Kept.{InnerKeeps}

abbrev Before : TypeNames → Language → tree.Parameters → List Symbol → Type 0
Before names g = Spells (AreParameters g names) before_parameter

abbrev pub is_no_parameter : tree.Parameters → Bool
is_no_parameter tree.NoParameter = true
is_no_parameter parameters = false

abbrev SomeIn : TypeNames → Language → tree.Parameters → List Symbol → Type 0
SomeIn names g = Spells (λ x. AreParameters g names x × (is_no_parameter x ≡ false)) parameters_spelling

pub then_comma : (x : tree.Parameters) → is_no_parameter x ≡ false → before_parameter x ≡ parameters_spelling x ++ comma
then_comma tree.NoParameter e = cc
then_comma (tree.AndParameter before specifiers d) e = simp append_assoc refl

module _ {names : TypeNames} {d : ℕ} (inner : InnerKeeps names d) where
  keeps_next : (before : tree.Parameters) (s ts : List Symbol) (moves : Bool) → (moves ≡ true → begins_specifier names InBlock (first ts) ≡ true)
      → Rule IsWritten true moves (λ d'. next_parameter names (rules names d') before) d (λ g x s'. Before names g before s → SomeIn names g x (s ++ s')) (λ x. parameters_height before ≤ d → parameters_height x ≤ d) Any ts
  unfolding next_parameter
  keeps_next before s ts moves moved =
      rule_bind (inner.specifiers InBlock moves ts moved) (λ specifiers s1 r1.
      rule_bind (keeps_declared names d inner WithOrWithout r1) (λ x s2 r2.
      rule_pure (λ g x_in a b. record { within = ((b.within, a.within.0, a.within.1, x_in.within), refl); spelled = rw (b.spelled, a.spelled, x_in.spelled, append-nil) refl })
      (λ low_x low_a low_b. omega arith) tt))

  pub parameter_steps : Steps IsWritten true d (λ _. is_comma) (λ d' before. skip >> next_parameter names (rules names d') before) (SomeIn names) (λ x. parameters_height x ≤ d) Any
  parameter_steps = record {
    never = λ _. refl;
    at_end = λ _. tt;
    steps = λ x s rest _ goes.
        rule_seq (rule_skip_the (Bare separator.Comma) (comma_here (first rest) goes)) (λ t s1 r1.
        rule_weaker
        (λ g y s' h after b. subst (λ z. SomeIn names g y z) (append_assoc s s1 s') (h (record { within = b.within.0; spelled = rw (b.spelled, after) (sym (then_comma x b.within.1)) })))
        (λ y low _ low_x. low low_x) (λ y rest' e. e) (keeps_next x (s ++ s1) r1 false (λ m. cc)));
  }

  keeps_list : (ts : List Symbol) → begins_specifier names InBlock (first ts) ≡ true
      → Rule IsWritten true true (λ d'. next_parameter names (rules names d') tree.NoParameter >>= (λ x. loop (λ _. is_comma) (λ before. skip >> next_parameter names (rules names d') before) x)) d
      (λ g. Spells (AreParameters g names) parameters_spelling) (λ x. parameters_height x ≤ d) Any ts
  keeps_list ts begins =
      rule_bind (rule_weaker (λ g x s h. h (record { within = tt; spelled = refl })) (λ x low. low (omega arith)) (λ x rest e. e) (keeps_next tree.NoParameter [] ts true (λ _. begins))) (λ x s rest.
      rule_weaker (λ g y s' h u. record { within = (h u).within.0; spelled = (h u).spelled }) (λ y low. low) (λ y rest' e. tt) (rule_loop parameter_steps x s (λ g x_in. x_in) (λ low. low) tt))

  pub keeps_parameters : (ts : List Symbol)
      → Rule IsWritten true false (λ d'. parameters names (rules names d')) d (λ g. Spells (AreParameters g names) parameters_spelling) (λ x. parameters_height x ≤ d) Any ts
  unfolding parameters
  keeps_parameters ts = rule_branch (begins_specifier names InBlock) refl (keeps_list ts) (λ _. rule_pure (λ g. record { within = tt; spelled = refl }) (omega arith) tt)

  -- the same, where a parameter comes
  pub keeps_parameters_here : (ts : List Symbol) → begins_specifier names InBlock (first ts) ≡ true
      → Rule IsWritten true true (λ d'. parameters names (rules names d')) d (λ g. Spells (AreParameters g names) parameters_spelling) (λ x. parameters_height x ≤ d) Any ts
  unfolding parameters
  keeps_parameters_here ts begins = rule_branch (begins_specifier names InBlock) refl (keeps_list ts) (λ no. absurd (true≢false (sym begins ∙ no)))

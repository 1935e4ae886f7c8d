-- What a set of typedef names is after a declarator.
use Rattle.std.proofs.Common.{◌≡◌, ℕ, Bool, true, false, cond, List, [], ◌∷◌, ◌++◌, map, reverse, Option, Some, None, Result, Ok, Err, OnOk, Vec, Global, nat_eq, sym, ap, ◌∙◌, subst}
use Rattle.std.proofs.lemmas.List.{map-append, reverse-append}
use Rattle.std.specs.Cmp.Lexicographic.{pointwise}
use Rattle.std.specs.Result.{is_err}
use Rattle.indexmap.specs.IndexSet.{insert_key}
use Rattle.c_tree.specs.Grammar.{declared_name, names_after, names_after_all, with_name}
use Rattle.c_tree.specs.Tree as tree
use Rattle.c_tree.specs.Words.{TypeNames, is_type_name}
use Rattle.c_tree.specs.Symbols.{Symbol}
use Rattle.parse_rules.specs.Parsers.{Answer}
use Rattle.c_parse_words.specs.Seen.{after_skip}
use Rattle.c_parser.specs.DeclarationRules.{next_declarator}
use Rattle.c_parse_words.proofs.NameLaws.{is_type_name-listed}
use Rattle.c_parser.specs.Names.{IsNew}

pub of_success : {T E : Type 0} (P : Type 0) (outcome : Result T E) → is_err outcome ≡ false → OnOk outcome P → P
of_success P (Ok value) failed fact = fact
of_success P (Err error) failed fact = absurd (cc failed)

-- a new key goes last
last_key : (eq : Vec ℕ Global → Vec ℕ Global → Bool) (keys : List (Vec ℕ Global)) (key : Vec ℕ Global) (b : Bool) → b ≡ false → reverse (map (λ k. k.items) (cond b keys (keys ++ key ∷ []))) ≡ key.items ∷ reverse (map (λ k. k.items) keys)
last_key eq keys key b e = rw e (ap reverse (map-append (λ k. k.items) keys (key ∷ [])) ∙ reverse-append (map (λ k. k.items) keys) (key.items ∷ []))

pub inserted : (keys : List (Vec ℕ Global)) (key : Vec ℕ Global) → is_type_name (reverse (map (λ k. k.items) keys)) key.items ≡ false
    → reverse (map (λ k. k.items) (insert_key (λ a b. pointwise nat_eq a.items b.items) keys key)) ≡ key.items ∷ reverse (map (λ k. k.items) keys)
inserted keys key new = last_key (λ a b. pointwise nat_eq a.items b.items) keys key _ (is_type_name-listed keys key.items ∙ new)

-- the name of a declarator that is new
pub name_is : (names : TypeNames) (name : Option (List ℕ)) (bytes : List ℕ) → IsNew names name → name ≡ Some bytes → is_type_name names bytes ≡ false
name_is names name bytes new e = subst (λ b. is_type_name names b ≡ false) (same_some (sym new.is_name ∙ e)) new.is_new
  where
    same_some : {a b : List ℕ} → ◌≡◌ {A = Option (List ℕ)} (Some a) (Some b) → a ≡ b
    same_some e = cc

pub none_new : (names : TypeNames) (name : Option (List ℕ)) → IsNew names name → name ≡ None → ⊥
none_new names name new e = some_none (sym new.is_name ∙ e)
  where
    some_none : {a : List ℕ} → ◌≡◌ {A = Option (List ℕ)} (Some a) None → ⊥
    some_none e = cc

pub declared_after : (names : TypeNames) (x : tree.Declarator) (bytes : List ℕ) → declared_name x ≡ Some bytes → names_after true names x ≡ bytes ∷ names
declared_after names x bytes e = ap (with_name names) e

pub names_go_on : (is_typedef : Bool) (base old new : TypeNames) (before list : tree.InitDeclarators) (x : tree.Declarator) → new ≡ names_after is_typedef old x
    → names_after_all is_typedef base list ≡ names_after is_typedef (names_after_all is_typedef base before) x → old ≡ names_after_all is_typedef base before → new ≡ names_after_all is_typedef base list
names_go_on is_typedef base old new before list x declared last e = declared ∙ ap (λ n. names_after is_typedef n x) e ∙ sym last

-- one more declarator, where names are in force that are the same
pub step_at : (n m : TypeNames) (is_typedef : Bool) (d : ℕ) (before : tree.InitDeclarators) (ts : List Symbol) {r : Answer Symbol tree.InitDeclarators} → n ≡ m
    → after_skip (next_declarator n is_typedef d before) ts ≡ r → after_skip (next_declarator m is_typedef d before) ts ≡ r
step_at n m is_typedef d before ts {r} e h = subst (λ names. after_skip (next_declarator names is_typedef d before) ts ≡ r) e h

-- The scopes that are open stay as they are, but for what is declared in the innermost one.
use Rattle.std.proofs.Common.{◌≡◌, ◌<◌, ◌≤◌, suc, Bool, true, false, nat_lt, List, [], ◌∷◌, ◌++◌, length, map, refl, ap, sym, subst, ◌∙◌, if◌then◌else◌, bytes_eq, arith}
use Rattle.std.proofs.lemmas.List.{append_assoc, append-nil, length-append, map-append}
use Rattle.std.proofs.lemmas.List.Elements.{All-nil, All-append, All-cons}
use Rattle.c_typing.specs.declared.declared.Declared.{Declared}
use Rattle.c_typing.specs.declared.declared.Tag.{Tag}
use Rattle.c_typing.specs.Growing.{Gained, GainNames, GainTags, AreStillOpen}
use Rattle.c_typing.specs.Scopes.{Name, Level, Scopes, with_entry, empty_level, at_innermost, innermost, without_innermost, with_name, with_tag, with_tag_set, declaring, declaring_tag, setting_tag, entering, leaving}

-- Levels

pub length-innermost : (f : Level → Level) (ls : List Level) → length (at_innermost f ls) ≡ length ls
length-innermost f [] = refl
length-innermost f (l ∷ []) = refl
length-innermost f (l ∷ (m ∷ ls)) = ap suc (length-innermost f (m ∷ ls))

kept_outer : (f : Level → Level) (l m : Level) (ls : List Level)
    → without_innermost (l ∷ at_innermost f (m ∷ ls)) ≡ l ∷ without_innermost (at_innermost f (m ∷ ls))
kept_outer f l m [] = refl
kept_outer f l m (k ∷ ls) = refl

pub outer-same : (f : Level → Level) (ls : List Level) → without_innermost (at_innermost f ls) ≡ without_innermost ls
outer-same f [] = refl
outer-same f (l ∷ []) = refl
outer-same f (l ∷ (m ∷ ls)) = kept_outer f l m ls ∙ ap (λ (all : List Level). l ∷ all) (outer-same f (m ∷ ls))

innermost_behind : (l : Level) (f : Level → Level) (m : Level) (ls : List Level) → innermost (l ∷ at_innermost f (m ∷ ls)) ≡ innermost (at_innermost f (m ∷ ls))
innermost_behind l f m [] = refl
innermost_behind l f m (k ∷ ls) = refl

-- the innermost level is the one that was changed, if there is one
innermost_changed : (Q : Level → Level → Type 0) (f : Level → Level) → ((l : Level) → Q l (f l)) → Q empty_level empty_level → (ls : List Level)
    → Q (innermost ls) (innermost (at_innermost f ls))
innermost_changed Q f h none [] = none
innermost_changed Q f h none (l ∷ []) = h l
innermost_changed Q f h none (l ∷ (m ∷ ls)) =
    subst (λ (k : Level). Q (innermost (m ∷ ls)) k) (sym (innermost_behind l f m ls)) (innermost_changed Q f h none (m ∷ ls))

pub outer-of : (ls : List Level) (l : Level) → without_innermost (ls ++ l ∷ []) ≡ ls
outer-of [] l = refl
outer-of (m ∷ []) l = refl
outer-of (m ∷ (k ∷ ls)) l = ap (λ (all : List Level). m ∷ all) (outer-of (k ∷ ls) l)

-- What a level gains

abbrev gained_by : (any : Bool) → Name × Declared → Type 0
gained_by any e = Gained any e.1

no_names : (any : Bool) (xs : List (Name × Declared)) → GainNames any xs xs
no_names any xs = ([], sym (append-nil xs), All-nil (gained_by any))

no_tags : (xs : List (Name × Tag)) → GainTags xs xs
no_tags xs = ([], sym (append-nil (map (λ (e : Name × Tag). e.0) xs)))

names_both : (any : Bool) (xs ys zs : List (Name × Declared)) → GainNames any xs ys → GainNames any ys zs → GainNames any xs zs
names_both any xs ys zs g h = (
  g.0 ++ h.0,
  h.1 ∙ (ap (λ (all : List (Name × Declared)). all ++ h.0) g.1 ∙ append_assoc xs g.0 h.0),
  All-append (gained_by any) g.0 h.0 g.2 h.2,
)

tags_both : (xs ys zs : List (Name × Tag)) → GainTags xs ys → GainTags ys zs → GainTags xs zs
tags_both xs ys zs g h = (g.0 ++ h.0, h.1 ∙ (ap (λ (all : List Name). all ++ h.0) g.1 ∙ append_assoc (map (λ (e : Name × Tag). e.0) xs) g.0 h.0))

one_name : (any : Bool) (name : Name) (what : Declared) → Gained any what → (xs : List (Name × Declared)) → GainNames any xs (xs ++ (name, what) ∷ [])
one_name any name what p xs = ((name, what) ∷ [], refl, All-cons (gained_by any) (name, what) [] p (All-nil (gained_by any)))

one_tag : (name : Name) (what : Tag) (xs : List (Name × Tag)) → GainTags xs (xs ++ (name, what) ∷ [])
one_tag name what xs = (name ∷ [], map-append (λ (e : Name × Tag). e.0) xs ((name, what) ∷ []))

set_tag : (name : Name) (what : Tag) (xs : List (Name × Tag)) → GainTags xs (with_entry name what xs)
set_tag name what [] = (name ∷ [], refl)
set_tag name what (x ∷ xs) = by (bytes_eq name x.0) (set_tag name what xs)
  where
    by : (b : Bool) → GainTags xs (with_entry name what xs) → GainTags (x ∷ xs) (if b then (x.0, what) ∷ xs else x ∷ with_entry name what xs)
    by true g = ([], sym (append-nil (map (λ (e : Name × Tag). e.0) (x ∷ xs))))
    by false g = (g.0, ap (λ (all : List Name). x.0 ∷ all) g.1)

-- Scopes

module _ (any : Bool) where
  pub still-open : (s r : Scopes) → r.levels ≡ s.levels → r.defined ≡ s.defined → length s.members ≤ length r.members → AreStillOpen any s r
  still-open s r h d more = record {
    many = ap (λ (ls : List Level). length ls) h;
    outer = ap (λ (ls : List Level). without_innermost ls) h;
    names = subst (λ (ls : List Level). GainNames any (innermost s.levels).names (innermost ls).names) (sym h) (no_names any (innermost s.levels).names);
    tags = subst (λ (ls : List Level). GainTags (innermost s.levels).tags (innermost ls).tags) (sym h) (no_tags (innermost s.levels).tags);
    defined = d;
    aggregates = more;
  }

  pub both-open : (s q r : Scopes) → AreStillOpen any s q → AreStillOpen any q r → AreStillOpen any s r
  both-open s q r g h = record {
    many = h.many ∙ g.many;
    outer = h.outer ∙ g.outer;
    names = names_both any (innermost s.levels).names (innermost q.levels).names (innermost r.levels).names g.names h.names;
    tags = tags_both (innermost s.levels).tags (innermost q.levels).tags (innermost r.levels).tags g.tags h.tags;
    defined = h.defined ∙ g.defined;
    aggregates = let a = g.aggregates in let b = h.aggregates in omega (arith, a, b);
  }

  -- the innermost one changes
  changed : (f : Level → Level) → ((l : Level) → GainNames any l.names (f l).names) → ((l : Level) → GainTags l.tags (f l).tags) → (s : Scopes)
      → AreStillOpen any s (record s { levels = at_innermost f s.levels })
  changed f names tags s = record {
    many = length-innermost f s.levels;
    outer = outer-same f s.levels;
    names = innermost_changed (λ l m. GainNames any l.names m.names) f names (no_names any []) s.levels;
    tags = innermost_changed (λ l m. GainTags l.tags m.tags) f tags (no_tags []) s.levels;
    defined = refl;
    aggregates = omega arith;
  }

  pub declaring-open : (name : Name) (what : Declared) → Gained any what → (s : Scopes) → AreStillOpen any s (declaring name what s)
  declaring-open name what p s = changed (with_name name what) (λ l. one_name any name what p l.names) (λ l. no_tags l.tags) s

  pub declaring_tag-open : (name : Name) (what : Tag) (s : Scopes) → AreStillOpen any s (declaring_tag name what s)
  declaring_tag-open name what s = changed (with_tag name what) (λ l. no_names any l.names) (λ l. one_tag name what l.tags) s

  pub setting_tag-open : (name : Name) (what : Tag) (s : Scopes) → AreStillOpen any s (setting_tag name what s)
  setting_tag-open name what s = changed (with_tag_set name what) (λ l. no_names any l.names) (λ l. set_tag name what l.tags) s

-- a scope of its own was entered, and is left
pub left-open : (any : Bool) (s r : Scopes) → AreStillOpen any (entering s) r → (leaving r).levels ≡ s.levels
left-open any s r h = h.outer ∙ outer-of s.levels empty_level

pub entered-many : (any : Bool) (s r : Scopes) → 0 < length s.levels → AreStillOpen any (entering s) r → nat_lt 1 (length r.levels) ≡ true
entered-many any s r some h =
    let many = h.many ∙ length-append s.levels (empty_level ∷ []) in
    grind (arith, many, some)

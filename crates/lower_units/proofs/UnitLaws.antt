-- A unit is lowered from what was found in it.
use Rattle.std.proofs.Common.{◌≡◌, refl, ap, sym, subst, ◌∙◌, ℕ, ◌<◌, ◌≤◌, arith, List, [], ◌∷◌, ◌++◌, length, map, flat_map, true, false, Bool, cond, nat_lt, Option, None, Some, slice_get}
use Rattle.std.specs.Option.{unwrap_or}
use Rattle.std.specs.List.{position, prefix_len}
use Rattle.std.proofs.lemmas.Bool.{lt-ltb}
use Rattle.std.proofs.lemmas.Option.{slice_get_past}
use Rattle.cc_base.specs.declared.number.NodeId.{NodeId}
use Rattle.c_types.specs.Table.{Table}
use Rattle.c_tree.specs.TypedTree.{TypedTranslationUnit}
use Rattle.c_tree.specs.TypedParts.{DefinedFunction, MadeObject, functions_of, made_by_unit, name_of, static_initialisers, statics_of}
use Rattle.src_mem.specs.Runs as runs
use Rattle.src_machine.specs.Machine as source
use Rattle.src_machine.specs.Machine.{is_main, place_of_function}
use Rattle.src_machine.specs.Pieces.{pieces_of_unit}
use Rattle.src_machine.specs.Sites.{sites_of_piece}
use Rattle.cil_form.specs.declared.program.Program.{Program}
use Rattle.cil_form.specs.declared.program.Static.{Static}
use Rattle.lower_rules.specs.Initialisers.{IsCodeOfStatics}
use Rattle.lower_rules.specs.Units.{AreCodeOf, IsCodeOfUnit, homes_of, static_context}
use Rattle.unit_parts.specs.declared.collected.Collected.{Collected}
use Rattle.unit_parts.specs.Collecting.{Adds, Collects, HaveBytes, seen_statics, static_of}
use Rattle.lower_units.specs.declared.externals.Found.{Found}
use Rattle.lower_units.specs.declared.units.Lowered.{Lowered}
use Rattle.lower_units.specs.Heads.{homes_of_statics}
use Rattle.lower_units.specs.Mains.{IsMade, IsMainOf, is_other}
use Rattle.lower_units.specs.Ready.{HasCodeOfUnit}
use Rattle.lower_units.specs.Units.{IsFoundIn, IsLoweredIn, number_in, place_in}
use Rattle.lower_units.proofs.MainLaws.{code_count}

pub found_in : (table : Table) (u : TypedTranslationUnit) (a b : Collected) → Collects table (made_by_unit u) (pieces_of_unit u) a b
    → a.statics.items ≡ [] → a.sites.items ≡ [] → b.fine ≡ true → IsFoundIn table u b
unfolding Collects Adds
found_in table u a b f statics sites fine =
    let p = f fine in record {
      statics = p.1 ∙ ap (λ l. seen_statics l ++ source.statics_in u) statics;
      sites = p.3 ∙ ap (λ l. l ++ flat_map (sites_of_piece table) (pieces_of_unit u)) sites;
      bytes = p.4 (subst HaveBytes (sym statics) tt);
    }

pub lowered_in : (table : Table) (statics : List Static) (u : TypedTranslationUnit) (l : Lowered) (homes : List NodeId) → homes ≡ homes_of_statics statics
    → IsMade table homes u l.made → IsCodeOfStatics (static_initialisers u) (static_context table homes) l.initialisers.0.items → IsLoweredIn table statics u l
lowered_in table statics u l homes e made code = record {
  made = subst (λ h. IsMade table h u l.made) e made;
  initialisers = subst (λ h. IsCodeOfStatics (static_initialisers u) (static_context table h) l.initialisers.0.items) e code;
}

abbrev home_seen : runs.Static → NodeId
home_seen o = o.home

abbrev made_home : MadeObject → NodeId
made_home o = o.home

seen_homes : (all : List MadeObject) → map home_seen (map static_of all) ≡ map made_home all
seen_homes [] = refl
seen_homes (o ∷ all) = ap (λ m. o.home ∷ m) (seen_homes all)

homes_seen : (all : List Static) → homes_of_statics all ≡ map home_seen (seen_statics all)
homes_seen [] = refl
homes_seen (o ∷ all) = ap (λ m. o.planned.home ∷ m) (homes_seen all)

pub found_homes : (table : Table) (u : TypedTranslationUnit) (c : Collected) → IsFoundIn table u c → homes_of_statics c.statics.items ≡ homes_of u
found_homes table u c f = homes_seen c.statics.items ∙ ap (map home_seen) f.statics ∙ seen_homes (statics_of u)

-- a unit that has code has it among the static objects that were found
pub found_ready : (table : Table) (u : TypedTranslationUnit) (c : Collected) → IsFoundIn table u c → HasCodeOfUnit table (homes_of u) u
    → HasCodeOfUnit table (homes_of_statics c.statics.items) u
found_ready table u c f has = subst (λ h. HasCodeOfUnit table h u) (sym (found_homes table u c f)) has

-- the number of `main`
main_at : (fs : List DefinedFunction) (n : ℕ) → prefix_len is_other fs ≡ n → n < length fs
    → unwrap_or (position (λ f. is_main (name_of f.declarator)) fs) (length fs) ≡ n
main_at fs n e within =
    ap (λ m. unwrap_or (cond (nat_lt m (length fs)) (Some m) None) (length fs)) e
    ∙ ap (λ (b : Bool). unwrap_or (cond b (Some n) None) (length fs)) (lt-ltb n (length fs) within)

main_nowhere : (fs : List DefinedFunction) → prefix_len is_other fs ≡ length fs
    → unwrap_or (position (λ f. is_main (name_of f.declarator)) fs) (length fs) ≡ length fs
main_nowhere fs e = ap (λ m. unwrap_or (cond (nat_lt m (length fs)) (Some m) None) (length fs)) e ∙ by (nat_lt (length fs) (length fs))
  where
    by : (b : Bool) → unwrap_or (cond b (Some (length fs)) None) (length fs) ≡ length fs
    by true = refl
    by false = refl

main_number : (u : TypedTranslationUnit) (m : Option Found) (count : ℕ) → IsMainOf (functions_of u) m → count ≡ length (functions_of u)
    → number_in m count ≡ source.main_of u
main_number u None count h e = e ∙ sym (main_nowhere (functions_of u) h)
main_number u (Some m) count h e = sym (main_at (functions_of u) m.number h.0 h.1)

-- it is below 2^32
pub main_numbered : (table : Table) (statics : List Static) (u : TypedTranslationUnit) (l : Lowered) → IsLoweredIn table statics u l
    → length (functions_of u) ≤ 65535 → number_in l.made.main (length l.made.functions.items) < 4294967296
main_numbered table statics u l low few = by l.made.main low.made.main
  where
    same : length (functions_of u) ≡ length l.made.functions.items
    same = code_count table (homes_of_statics statics) (functions_of u) l.made.functions.items low.made.functions

    by : (m : Option Found) → IsMainOf (functions_of u) m → number_in m (length l.made.functions.items) < 4294967296
    by None h = omega (arith, few, same)
    by (Some m) h = omega (arith, few, h.1)

main_place : (u : TypedTranslationUnit) (m : Option Found) → IsMainOf (functions_of u) m → place_in m ≡ source.main_place u
main_place u None h =
    sym (ap (λ n. place_of_function (slice_get (functions_of u) n)) (main_nowhere (functions_of u) h)
    ∙ ap place_of_function (slice_get_past (functions_of u) (length (functions_of u)) (omega arith)))
main_place u (Some m) h =
    sym (ap (λ n. place_of_function (slice_get (functions_of u) n)) (main_at (functions_of u) m.number h.0 h.1) ∙ h.2)

-- the whole
pub code_of_unit : (u : TypedTranslationUnit) (p : Program) (found : Collected) (l : Lowered) → IsFoundIn p.types u found
    → IsLoweredIn p.types found.statics.items u l → p.statics ≡ found.statics.items → p.functions ≡ l.made.functions.items
    → p.initialisers ≡ l.initialisers → p.main.0 ≡ number_in l.made.main (length l.made.functions.items) → p.main_place ≡ place_in l.made.main
    → IsCodeOfUnit u p
code_of_unit u p found l f low statics functions initialisers main at =
    let homes = found_homes p.types u found f in
    record {
      functions = subst (λ h. AreCodeOf p.types h (functions_of u) p.functions) homes
          (subst (λ fs. AreCodeOf p.types (homes_of_statics found.statics.items) (functions_of u) fs) (sym functions) low.made.functions);
      initialisers = subst (λ h. IsCodeOfStatics (static_initialisers u) (static_context p.types h) p.initialisers.0.items) homes
          (subst (λ i. IsCodeOfStatics (static_initialisers u) (static_context p.types (homes_of_statics found.statics.items)) i.0.items) (sym initialisers) low.initialisers);
      statics = ap seen_statics statics ∙ f.statics;
      main = main ∙ main_number u l.made.main (length l.made.functions.items) low.made.main
          (sym (code_count p.types (homes_of_statics found.statics.items) (functions_of u) l.made.functions.items low.made.functions));
      main_place = at ∙ main_place u l.made.main low.made.main;
    }

-- More objects and areas: what stood stands, and the words of all pointers that were there stay.
use Rattle.std.proofs.Common.{◌≡◌, ℕ, ◌+◌, ◌*◌, ◌<◌, pos, ◌+ℤ◌, List, [], ◌∷◌, ◌++◌, map, length, slice_get, Option, Some, None, refl, ap, sym, ◌∙◌, arith}
use Rattle.std.specs.Prelude.{⊤}
use Rattle.std.proofs.lemmas.List.{length-map}
use Rattle.std.proofs.lemmas.Option.{slice_get_within}
use Rattle.cc_base.specs.declared.number.TypeId.{TypeId}
use Rattle.cc_base.specs.declared.kind.Kind.{Kind}
use Rattle.cc_base.specs.declared.kind.Kind.TheVariants.{Safe, Seq, Rtti, Wild}
use Rattle.c_types.specs.Cells.{Cell}
use Rattle.c_types.specs.Widths.{before, cured_distance, cured_image, tagged_image}
use Rattle.c_types.proofs.OrderedPointers.{get_front}
use Rattle.integers.specs.Words.{word}
use Rattle.cured_code.specs.FlatState.{PlacedArea, Range}
use Rattle.src_mem.specs.Pointers.{Location, Pointer, Null, Number, At, Function, distance}
use Rattle.src_mem.specs.Memory.{Object, pointer_or_null}
use Rattle.src_mem.specs.State.{Setting, Access}
use Rattle.src_mem.specs.Outlines.{Outline, outline}
use Rattle.sim_relation.specs.Ground.{Ground, ground, address, address_in, cells, cells_in, natural, pointer_words}
use Rattle.sim_relation.specs.Objects.{HoldsTyped, HoldsWord, HoldsBy}
use Rattle.sim_relation.specs.Accesses.{image_by, IsImage, AreImages}

pub map-both : {A B : Type 0} (f : A → B) (xs ys : List A) → map f (xs ++ ys) ≡ map f xs ++ map f ys
map-both f [] ys = refl
map-both f (x ∷ xs) ys = ap (λ zs. f x ∷ zs) (map-both f xs ys)

-- the words of a pointer into an object of these cells, whose area has this address
abbrev pub words_from : Ground → ℕ → List Cell → Kind → Location → List ℕ
words_from g a cs Safe l = (a + before g.kind cs (natural l.offset)) ∷ []
words_from g a cs Rtti l = (a + before g.kind cs (natural l.offset)) ∷ g.number_of l.made ∷ []
words_from g a cs Seq l = word (pos (a + before g.kind cs l.part.low) +ℤ cured_distance g.table g.kind l.made (distance l)) ∷ (a + before g.kind cs l.part.low) ∷ (a + before g.kind cs l.part.high) ∷ []
words_from g a cs Wild l = word (pos a +ℤ l.offset) ∷ a ∷ []

pub words-from : (g : Ground) (k : Kind) (l : Location) → pointer_words g k (At l) ≡ words_from g (address g l.object) (cells g l.object) k l
words-from g Safe l = refl
words-from g Rtti l = refl
words-from g Seq l = refl
words-from g Wild l = refl

-- the pointer's object is one of the first n
abbrev pub IsThere : ℕ → Pointer → Type 0
IsThere n (At l) = l.object < n
IsThere n p = ⊤

pub record AllThere (n : ℕ) (o : Object) : Type 0 where
  pub each : (k : ℕ) (p : Pointer) → o.pointers k ≡ Some p → IsThere n p

module _ (w : Setting) (number_of : TypeId → ℕ) (objects more : List Object) (areas plus : List PlacedArea) (count : length areas ≡ length objects) where
  abbrev g : Ground
  g = ground w number_of objects areas

  abbrev g' : Ground
  g' = ground w number_of (objects ++ more) (areas ++ plus)

  pub outline-grow : (k : ℕ) → k < length objects → slice_get (map outline (objects ++ more)) k ≡ slice_get (map outline objects) k
  outline-grow k h =
      ap (λ (xs : List Outline). slice_get xs k) (map-both outline objects more)
      ∙ get_front (map outline objects) (map outline more) k (let e = length-map objects outline in omega (arith, e, h))

  pub area-grow : (k : ℕ) → k < length objects → slice_get (areas ++ plus) k ≡ slice_get areas k
  area-grow k h = get_front areas plus k (omega (arith, count, h))

  pub address-grow : (k : ℕ) → k < length objects → address (ground w number_of (objects ++ more) (areas ++ plus)) k ≡ address (ground w number_of objects areas) k
  address-grow k h = ap address_in (area-grow k h)

  pub cells-grow : (k : ℕ) → k < length objects → cells (ground w number_of (objects ++ more) (areas ++ plus)) k ≡ cells (ground w number_of objects areas) k
  cells-grow k h = ap cells_in (outline-grow k h)

  pub words-grow : (k : Kind) (p : Pointer) → IsThere (length objects) p → pointer_words (ground w number_of (objects ++ more) (areas ++ plus)) k p ≡ pointer_words (ground w number_of objects areas) k p
  words-grow k Null h = refl
  words-grow k (Number n) h = refl
  words-grow k (Function f) h = refl
  words-grow k (At l) h =
      words-from (ground w number_of (objects ++ more) (areas ++ plus)) k l
      ∙ ap (λ (a : ℕ). words_from (ground w number_of objects areas) a (cells (ground w number_of (objects ++ more) (areas ++ plus)) l.object) k l) (address-grow l.object h)
      ∙ ap (λ (cs : List Cell). words_from (ground w number_of objects areas) (address (ground w number_of objects areas) l.object) cs k l) (cells-grow l.object h)
      ∙ sym (words-from (ground w number_of objects areas) k l)

  there : (o : Object) → AllThere (length objects) o → (k : ℕ) (x : Option Pointer) → o.pointers k ≡ x → IsThere (length objects) (pointer_or_null x)
  there o a k None e = tt
  there o a k (Some p) e = a.each k p e

  typed-grow : (bytes : List ℕ) (at : ℕ) (o : Object) → AllThere (length objects) o → HoldsTyped (ground w number_of objects areas) bytes at o → HoldsTyped (ground w number_of (objects ++ more) (areas ++ plus)) bytes at o
  typed-grow bytes at o a h = record {
    ordered = h.ordered;
    sized = h.sized;
    integers = h.integers;
    pointers = λ i n t e. h.pointers i n t e ∙ sym (words-grow (w.kind n) (pointer_or_null (o.pointers i)) (there o a i (o.pointers i) refl));
  }

  abbrev head : List ℕ → ℕ
  head [] = 0
  head (x ∷ xs) = x

  abbrev next : List ℕ → ℕ
  next [] = 0
  next (x ∷ xs) = head xs

  word-grow : (bytes : List ℕ) (at : ℕ) (o : Object) (k : ℕ) (x : Option Pointer) → IsThere (length objects) (pointer_or_null x) → HoldsWord (ground w number_of objects areas) bytes at o k x → HoldsWord (ground w number_of (objects ++ more) (areas ++ plus)) bytes at o k x
  word-grow bytes at o k None i h = h
  word-grow bytes at o k (Some p) i h = (h.0, h.1 ∙ sym (ap head (words-grow Wild p i)), h.2 ∙ sym (ap next (words-grow Wild p i)))

  pub holds-grow : (k : Kind) (bytes : List ℕ) (at : ℕ) (o : Object) → AllThere (length objects) o → HoldsBy k (ground w number_of objects areas) bytes at o → HoldsBy k (ground w number_of (objects ++ more) (areas ++ plus)) bytes at o
  holds-grow Safe bytes at o a h = typed-grow bytes at o a h
  holds-grow Seq bytes at o a h = typed-grow bytes at o a h
  holds-grow Rtti bytes at o a h = typed-grow bytes at o a h
  holds-grow Wild bytes at o a h = record { size = h.size; words = λ i l. word-grow bytes at o i (o.pointers (8 * i)) (there o a (8 * i) (o.pointers (8 * i)) refl) (h.words i l) }

  image-by-grow : (k : Kind) (o : Outline) (x : Access) → x.object < length objects → image_by k (ground w number_of objects areas) o x ≡ image_by k (ground w number_of (objects ++ more) (areas ++ plus)) o x
  image-by-grow Safe o x h = ap (λ (a : ℕ). cured_image w.kind o.cells a x.offset x.size) (sym (address-grow x.object h))
  image-by-grow Seq o x h = ap (λ (a : ℕ). cured_image w.kind o.cells a x.offset x.size) (sym (address-grow x.object h))
  image-by-grow Rtti o x h = ap (λ (a : ℕ). cured_image w.kind o.cells a x.offset x.size) (sym (address-grow x.object h))
  image-by-grow Wild o x h = ap (λ (a : ℕ). tagged_image a x.offset x.size) (sym (address-grow x.object h))

  pub image-grow : (x : Access) (y : Range) → IsImage (ground w number_of objects areas) x y → IsImage (ground w number_of (objects ++ more) (areas ++ plus)) x y
  image-grow x y i = record { object = i.object; found = outline-grow x.object small ∙ i.found; is = i.is ∙ image-by-grow (w.kind i.object.node) i.object x small }
    where
      small : x.object < length objects
      small = let h = slice_get_within (map outline objects) x.object i.object i.found in let e = length-map objects outline in omega (arith, h, e)

  pub images-grow : (xs : List Access) (ys : List Range) → AreImages (ground w number_of objects areas) xs ys → AreImages (ground w number_of (objects ++ more) (areas ++ plus)) xs ys
  images-grow [] [] h = h
  images-grow [] (y ∷ ys) h = absurd h
  images-grow (x ∷ xs) [] h = absurd h
  images-grow (x ∷ xs) (y ∷ ys) h = (image-grow x y h.0, images-grow xs ys h.1)

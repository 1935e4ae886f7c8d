-- Accesses of a C program, and the ranges of bytes that the flat machine touches for them.
use Rattle.std.specs.Prelude.{◌≡◌, ◌+◌, ⊤, List, [], ◌∷◌, slice_get, Some}
use Rattle.cc_base.specs.declared.kind.Kind.{Kind}
use Rattle.cc_base.specs.declared.kind.Kind.TheVariants.{Wild}
use Rattle.c_types.specs.Widths.{ByteRange, cured_image, tagged_image}
use Rattle.src_mem.specs.State.{Access}
use Rattle.src_mem.specs.Outlines.{Outline}
use Rattle.cured_code.specs.FlatState.{Range}
use Rattle.sim_relation.specs.Ground.{Ground, address}

-- the bytes that a range covers
abbrev pub covered : Range → ByteRange
covered r = record { start = r.at; end = r.at + r.size }

-- the image of an access to an object of this kind of home
abbrev pub image_by : Kind → Ground → Outline → Access → ByteRange
image_by Wild g o a = tagged_image (address g a.object) a.offset a.size
image_by kind g o a = cured_image g.kind o.cells (address g a.object) a.offset a.size

-- the object of the access is there, and the range is its image; that the access lies in it is a law of the source's runs
pub record IsImage (g : Ground) (a : Access) (r : Range) : Type 0 where
  pub object : Outline
  pub found : slice_get g.outlines a.object ≡ Some object
  pub is : covered r ≡ image_by (g.kind object.node) g object a

-- as many ranges as accesses, and each is the image of its access
abbrev pub AreImages : Ground → List Access → List Range → Type 0
AreImages g [] [] = ⊤
AreImages g [] (r ∷ ranges) = ⊥
AreImages g (a ∷ accesses) [] = ⊥
AreImages g (a ∷ accesses) (r ∷ ranges) = IsImage g a r × AreImages g accesses ranges

-- Numbers in a list of bytes, little-endian, and what writing, zeroing and moving bytes leave. Each is a
-- recursion on how many bytes there are. A byte past the list's end reads as 0, and writing one does nothing.
use Rattle.std.specs.Prelude.{◌≡◌, ◌⊎◌, ℕ, zero, suc, ◌+◌, ◌*◌, ◌/◌, ◌%◌, ◌<◌, List, [], ◌∷◌, slice_index, slice_set}

-- the number whose n little-endian bytes stand at `at`
unfoldable pub number : ℕ → List ℕ → ℕ → ℕ
number zero bytes at = 0
number (suc n) bytes at = slice_index bytes at + 256 * number n bytes (at + 1)

-- the list with the n low bytes of v written at `at`, the lowest first
unfoldable pub stored : ℕ → List ℕ → ℕ → ℕ → List ℕ
stored zero bytes at v = bytes
stored (suc n) bytes at v = stored n (slice_set bytes at (v % 256)) (at + 1) (v / 256)

-- the list with n zero bytes at `at`
unfoldable pub zeroed : ℕ → List ℕ → ℕ → List ℕ
zeroed zero bytes at = bytes
zeroed (suc n) bytes at = zeroed n (slice_set bytes at 0) (at + 1)

-- the n bytes at `at`
unfoldable pub bytes_at : ℕ → List ℕ → ℕ → List ℕ
bytes_at zero bytes at = []
bytes_at (suc n) bytes at = slice_index bytes at ∷ bytes_at n bytes (at + 1)

-- the list with the bytes of `new` written at `at`
unfoldable pub written : List ℕ → List ℕ → ℕ → List ℕ
written [] bytes at = bytes
written (b ∷ new) bytes at = written new (slice_set bytes at b) (at + 1)

-- the list with the n bytes at `from` copied to `to`, all of them read before the first is written
abbrev pub moved : ℕ → List ℕ → ℕ → ℕ → List ℕ
moved n bytes to from = written (bytes_at n bytes from) bytes to

-- each element is a byte
pub record AreBytes (bytes : List ℕ) : Type 0 where
  pub below : (i : ℕ) → slice_index bytes i < 256

-- how many bytes one load or store may have
abbrev pub IsAccessSize : ℕ → Type 0
IsAccessSize n = (n ≡ 1) ⊎ (n ≡ 2) ⊎ (n ≡ 4) ⊎ (n ≡ 8)

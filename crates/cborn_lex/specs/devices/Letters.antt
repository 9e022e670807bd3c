-- A device of the proofs: contents of strings as lists of letters, and what they stand for. No definition cites it.
use Rattle.std.specs.Prelude.{◌≡◌, ℕ, ◌<◌, Bool, true, ◌||◌, ◌&&◌, not, List, [], ◌∷◌, ◌++◌, flat_map, ◌==◌, nat_le, encode_utf8, length, take, slice_index}
use Rattle.cborn_lex.specs.Common.{list_all, byte}
use Rattle.cborn_lex.specs.Strings.{four, code, are_hex, is_high, is_low, is_escape, escape_code, paired, is_content, IsText}
use Rattle.cborn_lex.specs.devices.Scan.{is_raw}

-- one part of a content, as it is written: a byte, or an escape
pub data Letter : Type 0 where
  raw : ℕ → Letter
  escaped : ℕ → Letter
  unit : ℕ → ℕ → ℕ → ℕ → Letter  -- \uXXXX
  pair : ℕ → ℕ → ℕ → ℕ → ℕ → ℕ → ℕ → ℕ → Letter  -- \uXXXX\uXXXX

abbrev pub written : Letter → List ℕ
written (raw c) = c ∷ []
written (escaped e) = byte "\\" ∷ e ∷ []
written (unit a b c d) = four a b c d
written (pair a b c d e f g h) = four a b c d ++ four e f g h

abbrev pub is_letter : ℕ → Letter → Bool
is_letter q (raw c) = nat_le 32 c && not (c == byte "\\")
is_letter q (escaped e) = is_escape q e
is_letter q (unit a b c d) = are_hex a b c d && not (is_high (code a b c d) || is_low (code a b c d))
is_letter q (pair a b c d e f g h) = (are_hex a b c d && is_high (code a b c d)) && (are_hex e f g h && is_low (code e f g h))

-- what a letter stands for: a byte for itself, and an escape for its character in UTF-8
abbrev pub meant : Letter → List ℕ
meant (raw c) = c ∷ []
meant (escaped e) = escape_code e ∷ []
meant (unit a b c d) = encode_utf8 (code a b c d)
meant (pair a b c d e f g h) = encode_utf8 (paired (code a b c d) (code e f g h))

pub record HasLetters (q : ℕ) (content bytes : List ℕ) : Type 0 where
  pub letters : List Letter
  pub allowed : list_all (is_letter q) letters ≡ true
  pub whole : content ≡ flat_map written letters
  pub value : bytes ≡ flat_map meant letters

-- the letter stands for itself, and closes no string with the quote q
abbrev pub is_plain : ℕ → ℕ → Bool
is_plain q c = is_raw c && not (c == q)

abbrev pub is_special : ℕ → ℕ → Bool
is_special q c = not (is_plain q c)

-- the first len characters are a content, and the bytes that it stands for are added
pub record LettersSoFar (q : ℕ) (tail : List ℕ) (len : ℕ) (old new : List ℕ) : Type 0 where
  pub inside : is_content q (take len tail) ≡ true
  pub letters : List Letter
  pub allowed : list_all (is_letter q) letters ≡ true
  pub whole : take len tail ≡ flat_map written letters
  pub added : new ≡ old ++ flat_map meant letters

-- the first len characters are a content that ends at a quote; the bytes that it stands for are added
pub record LettersTaken (q : ℕ) (tail : List ℕ) (len : ℕ) (old new : List ℕ) : Type 0 where
  pub within : len < length tail
  pub inside : is_content q (take len tail) ≡ true
  pub quote : slice_index tail len ≡ q
  pub bytes : List ℕ
  pub is : IsText q (take len tail) bytes
  pub added : new ≡ old ++ bytes

-- a content up to a quote stands for nothing
abbrev pub NoText : ℕ → List ℕ → Type 0
NoText q tail = (i : ℕ) → i < length tail → is_content q (take i tail) ≡ true → slice_index tail i ≡ q → (bytes : List ℕ) → IsText q (take i tail) bytes → ⊥

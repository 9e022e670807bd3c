-- What one number, one string, its chunks, an array and a map spell without a meaning error: bytes, not many of them, which fit their widths if they are fewer than 2^64.
use Rattle.std.specs.Prelude.{◌≡◌, ◌+◌, ◌^◌, ◌<◌, ◌≤◌, ◌∷◌, ◌++◌, ◌&&◌}
use Rattle.cborn_edn.proofs.Common.{refl, ℕ, suc, List, [], length, Bool, true, false, cond, arith, flat_map, digits_of, ltb-true, length-append, length-digits_of-le, all_below_base_digits_of, AreBytes, Direct, Size, Major, Unsigned, Negative, ByteString, TextString, Array, Chunk, least, Argument, Given, head, argument, WidthFits, SizeFits, chunk_bytes, spelled, spelled_all, spelled_entries, ChunksFit, Fits, Tree, Uint, Nint, Items, Pairs, Tagged, Trees, more, Entries, no_entry, entry, count, count_entries, Mark, IndicatorNotAllowed, StringKind, OfBytes, OfText, width, size, is_absent, unless, width_errors, size_errors, is_below, argument_of, is_small, integer, bignum, number_node, number_errors, is_endless, Str, chunked_node, string_node, said_string, mark_errors, string_errors, ByteNode, no_node as no_item, depth_of_number, bytes-append, MapHead, TagHead, least_holds, head_bytes}
use Rattle.cborn_model.specs.Spelled.{ending, string}
use Rattle.cborn_model.specs.Tree.{depth}
use Rattle.cborn_edn.proofs.Meaning.NoError.{no_left, width_fits, size_fits, mark_fits}
use Rattle.cborn_edn.proofs.Reader.Modest.{least_bytes, width_bytes}

-- the bytes y, at most so many
pub record Sound (most : ℕ) (y : List ℕ) (Fit : Type 0) (deep limit : ℕ) : Type 0 where
  pub bytes : AreBytes y
  pub few : length y ≤ most
  pub fits : length y < 2 ^ 64 → Fit
  pub low : deep ≤ limit

-- each node spells a byte, so that there are no more nodes than bytes
sized_some : (k : Major) (s : Size) (n : ℕ) (x : List ℕ) → 0 < length (head k (argument s n) ++ x ++ ending s)
sized_some k s n x = grind arith

some_bytes : (t : Tree) → 0 < length (spelled t)
some_bytes (Items p s ts) = sized_some Array s (count ts) (spelled_all ts)
some_bytes (Pairs p s es) = sized_some MapHead s (count_entries es) (spelled_entries es)
some_bytes _ = omega arith

pub few_items : (ts : Trees) → count ts ≤ length (spelled_all ts)
few_items no_item = omega arith
few_items (more t ts) = omega (arith, few_items ts, some_bytes t, length-append (spelled t) (spelled_all ts))

pub few_entries : (es : Entries) → count_entries es ≤ length (spelled_entries es)
few_entries no_entry = omega arith
few_entries (entry k v es) = omega (arith, few_entries es, some_bytes k, length-append (spelled k ++ spelled v) (spelled_entries es), length-append (spelled k) (spelled v))

abbrev pub SoundNode : ℕ → Tree → ℕ → Type 0
SoundNode most t d = Sound most (spelled t) (Fits t) (depth t) d

pub head_short : (m : Major) (a : Argument) → length (head m a) ≤ 9
head_short m a = grind arith

pub argument_below : (n : Bool) (v : ℕ) → v < 2 ^ 128 → argument_of n v < 2 ^ 128
argument_below n v h1 = grind arith

pub number_sound : (p : ℕ) (n : Bool) (v : ℕ) (m : Mark) (d : ℕ) → depth_of_number n v ≤ d → v < 2 ^ 128 → number_errors p n v m ≡ [] → SoundNode 64 (number_node p n v m) d
number_sound p n v m d low h e = go (is_small n v) refl low e
  where
    small : (b : Bool) → argument_of n v < 2 ^ 64 → width_errors p m (argument_of n v) ≡ [] → SoundNode 64 (cond b (Nint p (width m (argument_of n v)) (argument_of n v)) (Uint p (width m (argument_of n v)) (argument_of n v))) d
    small true k e = record { bytes = width_bytes Negative p m (argument_of n v) e; few = omega (arith, head_short Negative (Given (width m (argument_of n v)) (argument_of n v))); fits = λ q. width_fits p m (argument_of n v) k e; low = omega arith }
    small false k e = record { bytes = width_bytes Unsigned p m (argument_of n v) e; few = omega (arith, head_short Unsigned (Given (width m (argument_of n v)) (argument_of n v))); fits = λ q. width_fits p m (argument_of n v) k e; low = omega arith }

    big : (x : List ℕ) (c : ℕ) → c < 24 → length x ≤ 16 → AreBytes x → 1 ≤ d → SoundNode 64 (Tagged p Direct c (ByteNode p (least (length x)) x)) d
    big x c k l are low =
        let inner = head ByteString (Given (least (length x)) (length x)) in
        record {
          bytes = bytes-append (head TagHead (Given Direct c)) (string ByteString (least (length x)) x) (omega arith, tt) (bytes-append inner x (least_bytes ByteString (length x)) are);
          few = omega (arith, l, head_short ByteString (Given (least (length x)) (length x)), length-append inner x);
          fits = λ q. (k, (least_holds (length x) (omega arith), are));
          low = low;
        }

    code : (b : Bool) → cond b 3 2 < 24
    code true = omega arith
    code false = omega arith

    go : (b : Bool) → is_small n v ≡ b → cond b 0 1 ≤ d → cond b (width_errors p m (argument_of n v)) (unless (is_absent m) p IndicatorNotAllowed) ≡ [] → SoundNode 64 (cond b (integer p n v (width m (argument_of n v))) (bignum p n v)) d
    go true f low e = small (is_below n v) (ltb-true _ _ f) e
    go false f low e =
        big (digits_of 256 (argument_of n v)) (cond (is_below n v) 3 2) (code (is_below n v)) (length-digits_of-le 256 16 (argument_of n v) (omega arith) (argument_below n v h)) (all_below_base_digits_of 256 (argument_of n v) (omega arith)) low

-- a string in one head
pub string_sound : (g : Major) (may_end : Bool) (s : Str) (d : ℕ) → s.known ≡ true → mark_errors may_end s ≡ [] → AreBytes s.bytes
    → Sound (length s.bytes + 9) (string g (width s.mark (length s.bytes)) s.bytes) (WidthFits (width s.mark (length s.bytes)) (length s.bytes) × AreBytes s.bytes) 0 d
string_sound g may_end s d h1 h2 h3 = grind (arith, bytes-append, head_short, least_bytes, length-append, mark_fits, width_bytes)

pub said_sound : (s : Str) (d : ℕ) → s.known ≡ true → string_errors s.lone s ≡ [] → AreBytes s.bytes → SoundNode (length s.bytes + 9) (said_string s) d
said_sound s d known e h = go (s.lone && is_endless s.mark)
  where
    none : (k : StringKind) → SoundNode (length s.bytes + 9) (chunked_node k s.place []) d
    none OfBytes = record { bytes = (omega arith, (omega arith, tt)); few = omega arith; fits = λ q. tt; low = omega arith }
    none OfText = record { bytes = (omega arith, (omega arith, tt)); few = omega arith; fits = λ q. tt; low = omega arith }

    whole : (k : StringKind) → SoundNode (length s.bytes + 9) (string_node k s.place (width s.mark (length s.bytes)) s.bytes) d
    whole OfBytes = let t = string_sound ByteString s.lone s d known (no_left (mark_errors s.lone s) _ e) h in record { bytes = t.bytes; few = t.few; fits = t.fits; low = t.low }
    whole OfText = let t = string_sound TextString s.lone s d known (no_left (mark_errors s.lone s) _ e) h in record { bytes = t.bytes; few = t.few; fits = t.fits; low = t.low }

    go : (b : Bool) → SoundNode (length s.bytes + 9) (cond b (chunked_node s.kind s.place []) (string_node s.kind s.place (width s.mark (length s.bytes)) s.bytes)) d
    go true = none s.kind
    go false = whole s.kind

abbrev pub SoundChunks : Major → ℕ → List Chunk → Type 0
SoundChunks g most cs = Sound most (flat_map (chunk_bytes g) cs) (ChunksFit cs) 0 0

chunks_in : (g : Major) (first : ℕ) (most : ℕ) (cs : List Chunk) → first < 256 → SoundChunks g most cs → Sound (most + 2) ((first ∷ flat_map (chunk_bytes g) cs) ++ (255 ∷ [])) (ChunksFit cs) 0 0
chunks_in g first most cs h1 h2 = grind (arith, bytes-append, length-append)

pub chunked_sound : (k : StringKind) (p : ℕ) (cs : List Chunk) (most d : ℕ) → ((g : Major) → SoundChunks g most cs) → SoundNode (most + 2) (chunked_node k p cs) d
chunked_sound OfBytes p cs most d h = let t = chunks_in ByteString 95 most cs (omega arith) (h ByteString) in record { bytes = t.bytes; few = t.few; fits = t.fits; low = omega arith }
chunked_sound OfText p cs most d h = let t = chunks_in TextString 127 most cs (omega arith) (h TextString) in record { bytes = t.bytes; few = t.few; fits = t.fits; low = omega arith }

-- what an array's or a map's head and its end enclose
pub enclosed_sound : (g : Major) (p : ℕ) (m : Mark) (n : ℕ) (y : List ℕ) (most deep d : ℕ) {Fit : Type 0} → size_errors p m n ≡ [] → n ≤ length y → Sound most y Fit deep d → Sound (most + 10) (head g (argument (size m n) n) ++ y ++ ending (size m n)) (SizeFits (size m n) n × Fit) (suc deep) (suc d)
enclosed_sound g p m n y most deep d h1 h2 h3 = grind (arith, bytes-append, head_bytes, head_short, least_bytes, length-append, size_fits, width_bytes)

-- at most so many, and so more
pub within : {most more : ℕ} {y : List ℕ} {Fit : Type 0} {deep limit : ℕ} → most ≤ more → Sound most y Fit deep limit → Sound more y Fit deep limit
within h s = record { bytes = s.bytes; few = omega (arith, h, s.few); fits = s.fits; low = s.low }

pub one_more : (cs : List Chunk) (c : Chunk) → ChunksFit cs → WidthFits c.width (length c.bytes) × AreBytes c.bytes → ChunksFit (cs ++ (c ∷ []))
one_more [] c h g = (g, tt)
one_more (d ∷ cs) c h g = (h.0, one_more cs c h.1 g)

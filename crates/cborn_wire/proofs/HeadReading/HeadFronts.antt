-- What `read_head` answers, at each kind of initial byte.
use Rattle.std.specs.Prelude.{◌≡◌, ◌+◌, ◌-◌, ◌*◌, ◌/◌, ◌%◌, ◌<◌, ◌≤◌, ◌∷◌, ◌++◌}
use Rattle.cborn_wire.proofs.Common.{refl, sym, ap, ◌∙◌, subst, ℕ, zero, suc, List, [], length, take, drop, get_or, true, false, None, arith, length-append, take-append-drop, length-take-le, length-replicate, AreBytes, Width, Direct, Major, Unsigned, Other, code, information, following, major_at, reason_alone, IsHeadOf, IsFrontOfHead, ReadsHead, element_or_end, Now, Next, EndlessInformation, info_at, is_endless_head, is_always_bounded, head_reason, width_bytes, number, common_steps, nat_tests, bytes-append, bytes-left}
use Rattle.std.proofs.Math.ListN.{replicate}
use Rattle.cborn_model.specs.Heads as heads
use Rattle.cborn_wire.specs.declared.heads.Argument.TheVariants.{Given, Endless}
use Rattle.cborn_wire.specs.declared.heads.HeadRead.{HeadRead}
use Rattle.cborn_wire.proofs.HeadReading.InitialBytes.{same_alone}
use Rattle.cborn_wire.proofs.Machine.TakesHeads.{info_at-now}
use Rattle.cborn_wire.proofs.Machine.SoundRuns.{code_at, IsWide, InfoIs, info_is, again}

module _ (y : List ℕ) where
  pub now_free : (m : Major) (n : ℕ) → head_reason element_or_end false m (Now n) y ≡ None
  now_free m n = grind (arith, common_steps, nat_tests)

  endless_free : (m : Major) → is_always_bounded m ≡ false → head_reason element_or_end false m EndlessInformation y ≡ None
  endless_free m h = grind (arith, common_steps, nat_tests)

  pub direct_head : (b : ℕ) → b < 256 → b % 32 < 24 → IsHeadOf (b ∷ y) (record { major = b / 32; argument = Given Direct (b % 32) }) 1
  direct_head b small h =
      let same : b ≡ 32 * code (major_at (b / 32)) + b % 32 = omega (arith, code_at (b / 32) (omega arith)) in
      record {
        rest = y;
        major = omega arith;
        fits = h;
        whole = ap (λ c. c ∷ y) same;
        len = refl;
        free = same_alone b y ∙ ap (λ i. head_reason element_or_end false (major_at (b / 32)) i y) (info_at-now (b % 32) h) ∙ now_free (major_at (b / 32)) (b % 32);
      }

  pub endless_head : (b m : ℕ) → m < 8 → b / 32 ≡ m → info_at (b % 32) ≡ EndlessInformation → is_always_bounded (major_at m) ≡ false → IsHeadOf (b ∷ y) (record { major = m; argument = Endless }) 1
  endless_head b m small e i free =
      let low : b % 32 ≡ 31 = subst (InfoIs (b % 32)) i (info_is (b % 32)) in
      let same : b ≡ 32 * code (major_at m) + 31 = omega (arith, code_at m small, e, low) in
      record {
        rest = y;
        major = small;
        fits = tt;
        whole = ap (λ c. c ∷ y) same;
        len = refl;
        free = same_alone b y ∙ ap (λ n. head_reason element_or_end false (major_at n) (info_at (b % 32)) y) e ∙ ap (λ j. head_reason element_or_end false (major_at m) j y) i ∙ endless_free (major_at m) free;
      }

  -- the initial byte of a head with a wide argument
  wide_first : (b m n : ℕ) (w : Width) → m < 8 → b / 32 ≡ m → info_at (b % 32) ≡ Next w → (b ≡ 32 * code (major_at m) + information w n) × IsWide w
  wide_first b m n w small e i = grind (arith, common_steps, nat_tests)

  pub wide_head : (b m n k : ℕ) (w : Width) → m < 8 → b / 32 ≡ m → info_at (b % 32) ≡ Next w → AreBytes y → width_bytes w ≤ length y → n ≡ number w (take (width_bytes w) y) → k ≡ width_bytes w → reason_alone (b ∷ y) ≡ None
      → IsHeadOf (b ∷ y) (record { major = m; argument = Given w n }) (1 + k)
  wide_head b m n k w small e i are all value len free =
      let got = take (width_bytes w) y in
      let first = wide_first b m n w small e i in
      let bytes : AreBytes got = bytes-left got (drop (width_bytes w) y) (subst AreBytes (sym (take-append-drop (width_bytes w) y)) are) in
      let many : length got ≡ width_bytes w = length-take-le (width_bytes w) y all in
      let same = again w got first.1 many bytes in
      let follows : following w n ≡ got = ap (following w) value ∙ same.0 in
      record {
        rest = drop (width_bytes w) y;
        major = small;
        fits = subst (heads.WidthFits w) (sym value) same.1;
        whole = ap (λ c. c ∷ y) first.0 ∙ ap (λ l. (32 * code (major_at m) + information w n) ∷ l) (sym (take-append-drop (width_bytes w) y) ∙ ap (λ l. l ++ drop (width_bytes w) y) (sym follows));
        len = omega (arith, ap length follows, many, len);
        free = free;
      }

  bytes_zeros : (n : ℕ) → AreBytes (replicate n 0)
  bytes_zeros zero = tt
  bytes_zeros (suc n) = (omega arith, bytes_zeros n)

  pub wide_front : (b m : ℕ) (w : Width) → m < 8 → b / 32 ≡ m → info_at (b % 32) ≡ Next w → AreBytes y → length y < width_bytes w → reason_alone (b ∷ y) ≡ None → IsFrontOfHead (b ∷ y)
  wide_front b m w small e i are short free =
      let missing = replicate (width_bytes w - length y) 0 in
      let got = y ++ missing in
      let many : length got ≡ width_bytes w = omega (arith, length-append y missing, length-replicate {A = ℕ} (width_bytes w - length y) 0) in
      let first = wide_first b m (number w got) w small e i in
      let same = again w got first.1 many (bytes-append y missing are (bytes_zeros (width_bytes w - length y))) in
      record {
        major = major_at m;
        argument = heads.Given w (number w got);
        missing = missing;
        fits = same.1;
        whole = ap (λ c. c ∷ got) first.0 ∙ ap (λ l. (32 * code (major_at m) + information w (number w got)) ∷ l) (sym same.0);
        some = omega (arith, length-replicate {A = ℕ} (width_bytes w - length y) 0);
        free = free;
      }

pub no_head : (x : List ℕ) → length x < 1 → IsFrontOfHead x
no_head [] h = record { major = Unsigned; argument = heads.Given Direct 0; missing = 0 ∷ []; fits = omega arith; whole = refl; some = omega arith; free = refl }
no_head (b ∷ x) h = absurd (omega arith)

pub code_small : (m : Major) → code m < 8
code_small m = grind (arith, common_steps, nat_tests)

pub direct_front : (x : List ℕ) (m : Major) → AreBytes x → 1 ≤ length x → code m ≡ get_or x 0 0 / 32 → get_or x 0 0 % 32 < 24
    → IsHeadOf x (record { major = code m; argument = Given Direct (get_or x 0 0 % 32) }) 1
direct_front x m h e g k = grind (arith, common_steps, nat_tests, direct_head)

pub endless_front : (x : List ℕ) (r : HeadRead) (m : Major) → 1 ≤ length x → code m ≡ get_or x 0 0 / 32 → is_endless_head (info_at (get_or x 0 0 % 32)) ≡ true
    → ((b : ℕ) (y : List ℕ) → b / 32 ≡ code m → info_at (b % 32) ≡ EndlessInformation → ReadsHead (b ∷ y) r) → ReadsHead x r
endless_front x r m h e g k = grind (arith, common_steps, nat_tests)

pub wide_fronts : (x rest : List ℕ) (r : HeadRead) (m : Major) (w : Width) → rest ≡ drop 1 x → 1 ≤ length x → code m ≡ get_or x 0 0 / 32 → info_at (get_or x 0 0 % 32) ≡ Next w → (m ≡ Other → ⊥)
    → ((b : ℕ) → b / 32 ≡ code m → info_at (b % 32) ≡ Next w → reason_alone (b ∷ rest) ≡ None → ReadsHead (b ∷ rest) r) → ReadsHead x r
wide_fronts x rest r m w h e g k a b = grind (arith, common_steps, nat_tests)

-- The front of a head that isn't whole announces an argument of one byte or more.
pub short_front : (x : List ℕ) → 0 < length x → IsFrontOfHead x → (24 ≤ get_or x 0 0 % 32) × (get_or x 0 0 % 32 ≤ 27)
short_front x h e = grind (arith, length-append)

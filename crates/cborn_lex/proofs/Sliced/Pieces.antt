-- A number's parts as slices of what follows its first character.
use Rattle.std.specs.Prelude.{◌≡◌, ◌+◌, ◌≤◌, ◌++◌, ◌&&◌}
use Rattle.cborn_lex.proofs.Common.{refl, sym, ap, ◌∙◌, subst, ℕ, List, [], length, take, drop, Bool, true, false, not, cond, eqb, arith, append_assoc, take-append-drop, take-append_seam, drop-append_seam, length-append, length-take-le, length-drop, begins, is_numeral, mark_of, integer, number_front, IsRun, IsIndicator, IsTag, ReadsNumber}

-- where the front of x is s
pub front_is : (n : ℕ) (x s z : List ℕ) → x ≡ s ++ z → length s ≡ n → (take n x ≡ s) × (drop n x ≡ z)
front_is n x s z e h = (rw (e, ← h) (take-append_seam s z), rw (e, ← h) (drop-append_seam s z))

-- parts one after another
pub parts : (n m : ℕ) (x : List ℕ) → x ≡ take n x ++ (take m (drop n x) ++ drop m (drop n x))
parts n m x = sym (take-append-drop n x) ∙ ap (λ y. take n x ++ y) (sym (take-append-drop m (drop n x)))

number_of : (negative tagged : Bool) (first body mark tag z x : List ℕ) (k : ℕ) → x ≡ body ++ (mark ++ (tag ++ z)) → length body + length mark + length tag ≡ k → IsRun is_numeral body (mark ++ (tag ++ z)) → IsIndicator mark (tag ++ z) → IsTag negative tagged tag z
    → ReadsNumber negative first (take k x) (drop k x) (number_front negative tagged (mark_of mark) (integer negative (first ++ body)))
number_of negative tagged first body mark tag z x k e l run indicator tag-is =
    let whole : x ≡ (body ++ (mark ++ tag)) ++ z = e ∙ sym (simp append_assoc) in
    let f = front_is k x (body ++ (mark ++ tag)) z whole (simp length-append (omega arith)) in (
      tagged,
      body,
      mark,
      tag,
      record { run = rw f.1 run; indicator = rw f.1 indicator; tagging = rw f.1 tag-is; whole = f.0 },
      refl,
    )

tag_is : (negative : Bool) (x : List ℕ) → (not negative && begins (λ c. eqb c 40) x) ≡ true → IsTag negative true (take 1 x) (drop 1 x)
tag_is negative x h1 = grind arith

one_long : (negative : Bool) (x : List ℕ) → (not negative && begins (λ c. eqb c 40) x) ≡ true → length (take 1 x) ≡ 1
one_long negative x h1 = grind arith

pub number_tagged : (negative : Bool) (first x : List ℕ) (n m : ℕ) → n ≤ length x → m ≤ length (drop n x) → IsRun is_numeral (take n x) (drop n x) → IsIndicator (take m (drop n x)) (drop m (drop n x)) → (not negative && begins (λ c. eqb c 40) (drop m (drop n x))) ≡ true
    → ReadsNumber negative first (take (n + m + 1) x) (drop (n + m + 1) x) (number_front negative true (mark_of (take m (drop n x))) (integer negative (first ++ take n x)))
number_tagged negative first x n m h k run indicator some =
    let z = drop m (drop n x) in
    number_of negative true first (take n x) (take m (drop n x)) (take 1 z) (drop 1 z) x (n + m + 1)
    (parts n m x ∙ ap (λ y. take n x ++ (take m (drop n x) ++ y)) (sym (take-append-drop 1 z))) (omega (arith, length-take-le n x h, length-take-le m (drop n x) k, one_long negative z some))
    (subst (λ (y : List ℕ). IsRun is_numeral (take n x) y) (sym (take-append-drop m (drop n x)) ∙ ap (λ y. take m (drop n x) ++ y) (sym (take-append-drop 1 z))) run)
    (subst (λ (y : List ℕ). IsIndicator (take m (drop n x)) y) (sym (take-append-drop 1 z)) indicator) (tag_is negative z some)

tag_fits : (negative : Bool) (x : List ℕ) → (not negative && begins (λ c. eqb c 40) x) ≡ true → 1 ≤ length x
tag_fits negative x h1 = grind arith

pub record IsNumberAt (negative tagged : Bool) (first x after more text : List ℕ) (n m k : ℕ) : Type 0 where
  pub after_is : after ≡ drop n x
  pub more_is : more ≡ drop m after
  pub text_is : text ≡ first ++ take n x
  pub n_fits : n ≤ length x
  pub m_fits : m ≤ length after
  pub run : IsRun is_numeral (take n x) (drop n x)
  pub indicator : IsIndicator (take m after) (drop m after)
  pub tagged_is : tagged ≡ (not negative && begins (λ c. eqb c 40) more)
  pub k_is : k ≡ cond tagged (n + m + 1) (n + m)

made : (negative tagged : Bool) (first x : List ℕ) (n m k : ℕ) → n ≤ length x → m ≤ length (drop n x) → IsRun is_numeral (take n x) (drop n x) → IsIndicator (take m (drop n x)) (drop m (drop n x)) → tagged ≡ (not negative && begins (λ c. eqb c 40) (drop m (drop n x))) → k ≡ cond tagged (n + m + 1) (n + m)
    → (k ≤ length x) × ReadsNumber negative first (take k x) (drop k x) (number_front negative tagged (mark_of (take m (drop n x))) (integer negative (first ++ take n x)))
made negative true first x n m k h i run indicator t e =
    let some = tag_fits negative (drop m (drop n x)) (sym t) in
    (omega (arith, length-drop n x, length-drop m (drop n x)), rw e (number_tagged negative first x n m h i run indicator (sym t)))
made negative false first x n m k h i run indicator t e =
    (omega (arith, length-drop n x), rw e (number_of negative false first (take n x) (take m (drop n x)) [] (drop m (drop n x)) x (n + m) (parts n m x) (omega (arith, length-take-le n x h, length-take-le m (drop n x) i)) (subst (λ (y : List ℕ). IsRun is_numeral (take n x) y) (sym (take-append-drop m (drop n x))) run) indicator (refl, (sym t))))

pub number_made : (negative tagged : Bool) (first x after more text : List ℕ) (n m k : ℕ) → IsNumberAt negative tagged first x after more text n m k
    → (k ≤ length x) × ReadsNumber negative first (take k x) (drop k x) (number_front negative tagged (mark_of (take m after)) (integer negative text))
number_made negative tagged first x after more text n m k h =
    let after_is = h.after_is in
    let more_is : more ≡ drop m (drop n x) = h.more_is ∙ ap (drop m) after_is in
    let text_is = h.text_is in
    rw (after_is, text_is) (made negative tagged first x n m k h.n_fits (rw after_is at h.m_fits) h.run (rw after_is at h.indicator) (h.tagged_is ∙ ap (λ y. not negative && begins (λ c. eqb c 40) y) more_is) h.k_is)

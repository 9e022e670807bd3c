-- A device of the proofs: the text of a partial sequence, as the visitor that writes notation has it. No definition cites it.
use Rattle.std.specs.Prelude.{◌≡◌, ℕ, ◌+◌, ◌-◌, ◌^◌, ◌≤◌, List, [], ◌∷◌, ◌++◌, length, Option, Some, None, codes, decimal, min, if◌then◌else◌, Bool, true, false, ◌⊎◌, nat_lt, ◌==◌, ◌||◌}
use Rattle.cborn_edn.specs.Common.{flat_map, encode_lower, Size, Fixed, Endless, Width, StringKind, OfBytes, OfText, Tree, trees, Partial, top, inside, Opening, an_array, a_map, a_tag, in_chunks, Part, no_part, part, ended_size}
use Rattle.cborn_edn.specs.declared.notators.Next.{Next}
use Rattle.cborn_edn.specs.declared.notators.Next.TheVariants.{FirstItem, Item, FirstElement, Element, FirstKey, Key, Value, Content, TagEnd, FirstChunk, Chunk, FirstLateElement, LateElement, FirstLateKey, LateKey, LateValue}
use Rattle.cborn_edn.specs.declared.notators.OpenString.{OpenString}
use Rattle.cborn_edn.specs.declared.notators.Late.{Late}
use Rattle.cborn_edn.specs.declared.notators.Notator.{Notator}
use Rattle.cborn_edn.specs.Says.{is_good}
use Rattle.cborn_edn.specs.Shown.{shown, escaped, indicator, mark_for, opened, IsBadAmong}

-- what comes next in a container after one more part
abbrev pub after : Next → Next
after FirstItem = Item
after Item = Item
after FirstElement = Element
after Element = Element
after FirstKey = Value
after Key = Value
after Value = Key
after Content = TagEnd
after TagEnd = TagEnd
after (FirstChunk k) = Chunk
after Chunk = Chunk
after FirstLateElement = LateElement
after LateElement = LateElement
after FirstLateKey = LateValue
after LateKey = LateValue
after LateValue = LateKey

-- what is written before the part that comes next
abbrev pub separator : Next → List ℕ
separator Item = codes ",\n"
separator Element = codes ", "
separator Key = codes ", "
separator Value = codes ": "
separator (FirstChunk k) = codes "(_ "
separator Chunk = codes ", "
separator LateElement = codes ", "
separator LateKey = codes ", "
separator LateValue = codes ": "
separator _ = []

-- what is written where the container ends
abbrev pub ending : Next → List ℕ
ending FirstItem = []
ending Item = codes "\n"
ending FirstElement = codes "]"
ending Element = codes "]"
ending (FirstChunk OfBytes) = codes "''_"
ending (FirstChunk OfText) = codes "\"\"_"
ending Content = codes ")"
ending TagEnd = codes ")"
ending Chunk = codes ")"
ending FirstLateElement = codes "]"
ending LateElement = codes "]"
ending _ = codes "}"

-- what is written of nodes in a container, the first of them after this
abbrev pub following : Next → List Tree → List ℕ
following s [] = []
following s (t ∷ ts) = separator s ++ (shown t ++ following (after s) ts)

abbrev pub next_after : Next → List Tree → Next
next_after s [] = s
next_after s (t ∷ ts) = next_after (after s) ts

abbrev pub first : Opening → Next
first (an_array p (Fixed w) None) = FirstLateElement
first (an_array p s c) = FirstElement
first (a_map p (Fixed w) None) = FirstLateKey
first (a_map p s c) = FirstKey
first (a_tag p w n) = Content
first (in_chunks p k) = FirstChunk k

-- The indicator of an array or a map. It has none yet if it has a width and its count isn't known.
abbrev pub size_text : Size → Option ℕ → List ℕ
size_text Endless c = codes "_ "
size_text (Fixed w) (Some n) = opened (mark_for w n)
size_text (Fixed w) None = []

-- its indicator then, where it ends with n items or pairs
abbrev pub late_size : Width → ℕ → List ℕ
late_size w n = size_text (ended_size (Fixed w) None n) (Some n)

-- what is kept of it until then, where its bracket ends at i and n items or pairs began
abbrev pub late_at : Size → Option ℕ → ℕ → ℕ → List Late
late_at (Fixed w) None i n = record { at = i; width = w; count = n } ∷ []
late_at s c i n = []

-- what is written where a container begins
abbrev pub beginning : Opening → List ℕ
beginning (an_array p s c) = codes "[" ++ size_text s c
beginning (a_map p s c) = codes "{" ++ size_text s c
beginning (a_tag p w n) = decimal n ++ (indicator (mark_for w n) ++ codes "(")
beginning (in_chunks p k) = []

abbrev pub next_in : Partial → Next
next_in (top ts) = next_after FirstItem ts
next_in (inside f o ts) = next_after (first o) ts

abbrev pub next_around : Partial → List Next
next_around (top ts) = []
next_around (inside f o ts) = next_around f ++ next_in f ∷ []

abbrev pub written : Partial → List ℕ
written (top ts) = following FirstItem ts
written (inside f o ts) = (written f ++ separator (next_in f)) ++ (beginning o ++ following (first o) ts)

-- this is a part that is counted
abbrev pub is_counted : Next → Bool
is_counted FirstLateElement = true
is_counted LateElement = true
is_counted FirstLateKey = true
is_counted LateKey = true
is_counted _ = false

-- a count after one more, up to the greatest number of 64 bits
abbrev pub one_more : ℕ → ℕ
one_more n = min (n + 1) (2 ^ 64 - 1)

abbrev pub more : Late → Late
more l = record { at = l.at; width = l.width; count = one_more l.count }

-- where this part begins it is counted at the last of these
abbrev pub IsCounted : Next → List Late → List Late → Type 0
IsCounted s old new =
    (is_counted s ≡ false → new ≡ old)
    × (is_counted s ≡ true → (front : List Late) (late : Late) → old ≡ front ++ late ∷ [] → new ≡ front ++ more late ∷ [])

-- the container ends where this comes next: what is written, and an indicator inserted, if the last of these lacks it
abbrev pub IsEnded : Next → List Late → List ℕ → List Late → List ℕ → Type 0
IsEnded s old out new text =
    (is_counted s ≡ false → (new ≡ old) × (text ≡ out ++ ending s))
    × (is_counted s ≡ true → (front : List Late) (late : Late) (x y : List ℕ) → old ≡ front ++ late ∷ [] → out ≡ x ++ y → late.at ≡ length x → (new ≡ front) × (text ≡ (x ++ (late_size late.width late.count ++ y)) ++ ending s))

abbrev pub count_one : Next → ℕ → ℕ
count_one s n = if is_counted s then one_more n else n

-- the count after these nodes, and after the beginning of one more if that is so
abbrev pub tally : Next → ℕ → List Tree → Bool → ℕ
tally s n [] false = n
tally s n [] true = count_one s n
tally s n (t ∷ ts) b = tally (after s) (count_one s n) ts b

abbrev pub late_in : Opening → ℕ → ℕ → List Late
late_in (an_array p s c) i n = late_at s c i n
late_in (a_map p s c) i n = late_at s c i n
late_in _ i n = []

-- what is kept of each array and map whose indicator is missing; the test says whether one more node began in the innermost container
abbrev pub lates : Bool → Partial → List Late
lates b (top ts) = []
lates b (inside f o ts) = lates true f ++ late_in o (length ((written f ++ separator (next_in f)) ++ beginning o)) (tally (first o) 0 ts b)

abbrev pub begins : Part → Bool
begins no_part = false
begins (part p k w n x) = true

-- the place p is that of a text in it that isn't UTF-8
abbrev pub IsBadIn : Partial → ℕ → Type 0
IsBadIn (top ts) p = IsBadAmong (trees ts) p
IsBadIn (inside f o ts) p = IsBadIn f p ⊎ IsBadAmong (trees ts) p

-- the lowest place of which P holds, if there is one
abbrev pub IsLowest : (ℕ → Type 0) → Option ℕ → Type 0
IsLowest P None = (p : ℕ) → P p → ⊥
IsLowest P (Some p) = P p × ((q : ℕ) → P q → p ≤ q)

abbrev pub least : Option ℕ → ℕ → ℕ
least None q = q
least (Some p) q = min p q

-- the lowest place after this string, of whose content this is written
abbrev pub lowest_with : Option ℕ → OpenString → List ℕ → Option ℕ
lowest_with bad s x = if is_good s.kind x then bad else Some (least bad s.place)

abbrev pub quote : StringKind → List ℕ
quote OfBytes = codes "h'"
quote OfText = codes "\""

abbrev pub content : StringKind → List ℕ → List ℕ
content OfBytes x = encode_lower x
content OfText x = flat_map escaped x

abbrev pub string_end : StringKind → Width → ℕ → List ℕ
string_end OfBytes w n = codes "'" ++ indicator (mark_for w n)
string_end OfText w n = codes "\"" ++ indicator (mark_for w n)

-- what is written of the part of a string
abbrev pub WritesPart : List ℕ → Option OpenString → Option ℕ → Partial → Part → Type 0
WritesPart out string bad f no_part = bad ≡ None → out ≡ written f
WritesPart out string bad f (part p k w n x) =
    (front : List ℕ) × (string ≡ Some (record { place = p; kind = k; width = w; len = n; start = length front })) × (out ≡ front ++ content k x)
    × (bad ≡ None → front ≡ (written f ++ separator (next_in f)) ++ quote k)

pub record IsHeld (v : Notator) (f : Partial) (c : Part) : Type 0 where
  pub next : v.next ≡ next_in f
  pub around : v.around.items ≡ next_around f
  pub lates : v.bad ≡ None → v.lates.items ≡ lates (begins c) f
  pub bad : IsLowest (IsBadIn f) v.bad
  pub text : WritesPart v.out.items v.string v.bad f c

-- this byte is written as an escape
abbrev pub is_escaped : ℕ → Bool
is_escaped b = nat_lt b 32 || b == 34 || b == 92

-- Which items are valid (RFC 8949 sections 3.4.3 and 5.3): what a `Valid` holds.
use Rattle.std.specs.Prelude.{◌≢◌, ◌^◌, ◌<◌, ◌≤◌, if◌then◌else◌}
use Rattle.cborn_model.specs.Common.{ℕ, suc, max, length, IsTrue, IsUtf8, ⊤, nat_lt}
use Rattle.cborn_model.specs.Bytes.{AreBytes, big_endian, IsShortest}
use Rattle.cborn_model.specs.Heads.{is_simple_value}
use Rattle.cborn_model.specs.Value.{Value, Values, Couples, integer, bytes, text, array, dict, tagged, simple, no_values, value, no_pairs, pair, Same, value_count, pair_count}

-- the key is the same as none of these
abbrev pub IsNew : Value → Couples → Type 0
IsNew k no_pairs = ⊤
IsNew k (pair l v ps) = (Same k l → ⊥) × IsNew k ps

-- no two keys are the same
abbrev pub HasNewKeys : Couples → Type 0
HasNewKeys no_pairs = ⊤
HasNewKeys (pair k v ps) = IsNew k ps × HasNewKeys ps

-- Valid at every depth. No tag number, length or count is above 2 ^ 64 - 1.
abbrev mutual
  pub IsProper : Value → Type 0
  IsProper (integer s m) = AreBytes m × IsShortest m × (length m < 2 ^ 64)
  IsProper (bytes b) = AreBytes b × (length b < 2 ^ 64)
  IsProper (text b) = IsUtf8 b × (length b < 2 ^ 64)
  IsProper (array vs) = AreProper vs × (value_count vs < 2 ^ 64)
  IsProper (dict ps) = HasProperPairs ps × HasNewKeys ps × (pair_count ps < 2 ^ 64)
  IsProper (tagged t v) = (t ≢ 2) × (t ≢ 3) × (t < 2 ^ 64) × IsProper v
  IsProper (simple n) = IsTrue (is_simple_value n)

  pub AreProper : Values → Type 0
  AreProper no_values = ⊤
  AreProper (value v vs) = IsProper v × AreProper vs

  pub HasProperPairs : Couples → Type 0
  HasProperPairs no_pairs = ⊤
  HasProperPairs (pair k v ps) = IsProper k × IsProper v × HasProperPairs ps

-- The nesting depth of an item. An integer outside 64 bits counts as the tag that it is.
abbrev mutual
  pub value_depth : Value → ℕ
  value_depth (integer s m) = if nat_lt (big_endian m) (2 ^ 64) then 0 else 1
  value_depth (bytes b) = 0
  value_depth (text b) = 0
  value_depth (array vs) = suc (values_depth vs)
  value_depth (dict ps) = suc (pairs_depth ps)
  value_depth (tagged t v) = suc (value_depth v)
  value_depth (simple n) = 0

  pub values_depth : Values → ℕ
  values_depth no_values = 0
  values_depth (value v vs) = max (value_depth v) (values_depth vs)

  pub pairs_depth : Couples → ℕ
  pairs_depth no_pairs = 0
  pairs_depth (pair k v ps) = max (max (value_depth k) (value_depth v)) (pairs_depth ps)

-- An item is valid if it is proper and of depth at most 1,024.
abbrev pub IsValid : Value → Type 0
IsValid v = IsProper v × (value_depth v ≤ 1024)

-- What makes bytes look like a text.
use Rattle.std.specs.Prelude.{ℕ, ◌≡◌, ◌≤◌, ◌⊎◌}

-- printable ASCII, or the white space of the notation: tab, LF, CR, and the space among the printable ones (RFC 8949 section 8, RFC 8610 appendix G)
abbrev pub IsTextByte : ℕ → Type 0
IsTextByte b = ((32 ≤ b) × (b ≤ 126)) ⊎ (b ≡ 9) ⊎ (b ≡ 10) ⊎ (b ≡ 13)

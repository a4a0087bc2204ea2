-- The eight major types of RFC 8949, by which a head is told (document 01, "Stored image"). Assumes nothing.
use Rattle.std.specs.Prelude.{ℕ}
use Rattle.cbor.specs.declared.major.Major.{Major}

-- "major type 1": the number of a major type
abbrev pub number_of : Major → ℕ
number_of Major.Unsigned = 0
number_of Major.Negative = 1
number_of Major.Bytes = 2
number_of Major.Text = 3
number_of Major.Array = 4
number_of Major.Map = 5
number_of Major.Tag = 6
number_of Major.Simple = 7

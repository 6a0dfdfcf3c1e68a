-- Words laid in bytes.
use Rattle.std.specs.Prelude.{ℕ, ◌+◌, ◌*◌, List, ◌++◌, length, take, drop}
use Rattle.rules.specs.Snapshot.{bytes_of}

-- the bytes of words, from a place on; every other byte as it was
unfoldable pub laid : List ℕ → ℕ → List ℕ → List ℕ
laid ws at out = take at out ++ (bytes_of ws ++ drop (at + length ws * 8) out)

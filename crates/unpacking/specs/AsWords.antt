-- Bytes that are those of 64-bit words.
use Rattle.std.specs.Prelude.{ℕ, ◌≡◌, List, true}
use Rattle.rules.specs.Lists.{every}
use Rattle.rules.specs.WellFormed.{is_word}
use Rattle.rules.specs.Snapshot.{bytes_of}

pub record AsWords (bs ws : List ℕ) : Type 0 where
  pub bytes : bs ≡ bytes_of ws
  pub words : every is_word ws ≡ true

-- A rotation's record as the definitions have it.
use Rattle.std.specs.Prelude.{ℕ, List, Bool, Option, Some, None, cond, length, ltb}
use Rattle.rules.specs.Board as rules
use Rattle.tables.specs.Rows.{first_where}
use Rattle.shards.specs.declared.rotations.Rotation.{Rotation}

abbrev pub rotation_of : Rotation → rules.Rotation
rotation_of r = record { shard = r.shard.0; victim = r.victim.0; entrant = r.entrant.0; opened = r.opened.0 }

-- the first that passes a test, where one does
abbrev pub found_where : (rules.Rotation → Bool) → List rules.Rotation → Option ℕ
found_where f l = cond (ltb (first_where f l) (length l)) (Some (first_where f l)) None

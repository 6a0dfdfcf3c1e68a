-- What breaks a clause of the seat check, in words.
use Rattle.std.specs.Prelude.{ℕ, List, ◌++◌}
use Rattle.phrases.specs.Texts.{bytes, named}
use Rattle.fault_lines.specs.declared.MachineFault.{MachineFault}
use Rattle.fault_lines.specs.declared.MachineFault.TheVariants.{StrayMember, Unlisted, AbsentSeat, Unhalved}
use Rattle.fault_lines.specs.declared.RotationFault.{RotationFault}
use Rattle.fault_lines.specs.declared.RotationFault.TheVariants.{Unseated, SharedParty, SplitThere}
use Rattle.fault_lines.specs.declared.ReshapeFault.{ReshapeFault}
use Rattle.fault_lines.specs.declared.ReshapeFault.TheVariants.{Overlapping, Unfounded}

-- the shard is the committee's or the split's
unfoldable pub machine_wrong : MachineFault → List ℕ
machine_wrong (StrayMember shard) = named " is in the committee of shard " shard.0 ++ bytes ", and not there"
machine_wrong Unlisted = bytes " is in no committee of its shard, or watches without a seat"
machine_wrong (AbsentSeat shard) = named " has a seat in the split of shard " shard.0 ++ bytes ", and does not watch it"
machine_wrong (Unhalved shard) = named " is not in exactly one half of the split of shard " shard.0

unfoldable pub machine_fault_text : MachineFault → ℕ → List ℕ
machine_fault_text f id = named "  machine " id ++ machine_wrong f

unfoldable pub rotation_fault_text : ℕ → ℕ → ℕ → List ℕ
rotation_fault_text shard victim entrant = named "  shard " shard ++ named ": rotation of " victim ++ named " and " entrant

unfoldable pub rotation_wrong : RotationFault → List ℕ
rotation_wrong Unseated = bytes "    they are not two machines seated there"
rotation_wrong SharedParty = bytes "    it shares a machine with another rotation there"
rotation_wrong SplitThere = bytes "    a scheduled split stands there"

-- `other` is the target of the reshape that it overlaps
unfoldable pub reshape_wrong : ReshapeFault → List ℕ
reshape_wrong (Overlapping other) = named ": its family overlaps that of the reshape at shard " other.0
reshape_wrong Unfounded = bytes ": a committee, a gap or a boundary of its admission is missing"

unfoldable pub reshape_fault_text : ReshapeFault → ℕ → List ℕ
reshape_fault_text f target = named "  reshape at shard " target ++ reshape_wrong f

-- The hit group of a candidate, and its decision. (Vulkan, chapter 'Shader Binding Table', hit shader addressing; own: that
-- a group is a script, and that a group which isn't there ignores.)
--
-- By hand, for the table with offset 1, stride 3 and four scripts, of which the last confirms and the others are empty: a
-- candidate of an instance with offset 2 and of geometry 0 has the index 2 + 0 * 3 + 1 = 3, and is confirmed. With
-- geometry 1 the index is 6, there is no such group, and it is ignored.
use Rattle.std.specs.Prelude.{ℕ, ◌+◌, ◌*◌, List, [], Option, Some, None, slice_get}
use Rattle.ray_query.specs.declared.candidate.Candidate.{Candidate}
use Rattle.ray_query.specs.declared.decision.Decision.{Decision}
use Rattle.ray_query.specs.declared.decision.Decision.TheVariants.{Ignore}
use Rattle.ray_script.specs.declared.raw_rule.RawRule.{RawRule}
use Rattle.ray_script.specs.Meaning.{script_decision}

-- a trace's part of the binding table: its offset and stride, each from 0 to 15, and the scripts of the groups
pub record Table : Type 0 where
  pub offset : ℕ
  pub stride : ℕ
  pub scripts : List (List RawRule)

-- the table of no groups
abbrev pub no_groups : Table
no_groups = record { offset = 0; stride = 0; scripts = [] }

-- the index of a candidate's group: its instance's offset, plus its geometry's number times the stride, plus the offset
abbrev pub index_of : Table → Candidate → ℕ
index_of table c = c.found.sbt + c.found.geometry * table.stride + table.offset

-- the decision of a group: that of its script; Ignore where there is no such group
abbrev pub decided_by : Option (List RawRule) → Candidate → Decision
decided_by None c = Ignore
decided_by (Some script) c = script_decision script c

-- the decision of a table on a candidate: that of the group with its index
abbrev pub group_decision : Table → Candidate → Decision
group_decision table c = decided_by (slice_get table.scripts (index_of table c)) c

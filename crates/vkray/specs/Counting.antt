-- The line of a self run: how many records of hits are of each kind and each face. (Own.)
use Rattle.std.specs.Prelude.{ℕ, ◌-◌, ◌/◌, ◌==◌, Bool, true, false, if◌then◌else◌, List, [], ◌++◌, length, codes, decimal, unwrap_or}
use Rattle.std.specs.List.{count_by}
use Rattle.std.specs.Simd.{first_chunks}
use Rattle.ray_bytes.specs.Hits.{hit_of_bytes}
use Rattle.ray_cmd.specs.declared.command.Command.{Command}
use Rattle.ray_cmd.specs.declared.command.Command.TheVariants as commands
use Rattle.ray_rules.specs.Ranges.{range}
use Rattle.ray_action.specs.Memory.{Memory, bytes_at}
use Rattle.ray_action.specs.Pieces.{command_at}

-- the bytes of the range that a command reads: of no other command any, and none where one of them is missing
abbrev pub shown_by : Memory → Command → List ℕ
shown_by memory (commands.Read buffer offset size form) = unwrap_or (bytes_at memory (range buffer offset size)) []
shown_by memory _ = []

-- those that the last command of a recording reads of a memory
abbrev pub last_shown_in : Memory → List Command → List ℕ
last_shown_in memory rec = shown_by memory (command_at rec (length rec - 1))

-- whether a command reads bytes to show them
abbrev pub is_read : Command → Bool
is_read (commands.Read buffer offset size form) = true
is_read _ = false

-- how many commands are run so that what the last one reads stands there: all but a last `read`
abbrev pub quiet_length : List Command → ℕ
quiet_length rec = if is_read (command_at rec (length rec - 1)) then length rec - 1 else length rec

-- the records of hits that bytes hold, 80 bytes each
abbrev pub records_in : List ℕ → List (List ℕ)
records_in bytes = first_chunks 80 (length bytes / 80) bytes

-- how many of them are of a kind, and how many have a face
abbrev pub count_of_kind : ℕ → List (List ℕ) → ℕ
count_of_kind kind records = count_by (λ hit. (hit_of_bytes hit).kind == kind) records

abbrev pub count_of_face : ℕ → List (List ℕ) → ℕ
count_of_face face records = count_by (λ hit. (hit_of_bytes hit).face == face) records

-- the rays, and the records of triangles, of boxes and of misses; and those of front faces and of back faces
abbrev pub kinds_text : ℕ → List (List ℕ) → List ℕ
kinds_text rays records =
    codes "rays " ++ (decimal rays
    ++ (codes " tri " ++ (decimal (count_of_kind 1 records)
    ++ (codes " box " ++ (decimal (count_of_kind 2 records)
    ++ (codes " none " ++ decimal (count_of_kind 0 records)))))))

abbrev pub faces_text : List (List ℕ) → List ℕ
faces_text records =
    codes "front " ++ (decimal (count_of_face 1 records) ++ (codes " back " ++ decimal (count_of_face 2 records)))

-- the line `rays R tri A box B none C front D back E`
abbrev pub records_line : ℕ → List (List ℕ) → List ℕ
records_line rays records = kinds_text rays records ++ (codes " " ++ (faces_text records ++ codes "\n"))

unfoldable pub counts_line : ℕ → List ℕ → List ℕ
counts_line rays bytes = records_line rays (records_in bytes)

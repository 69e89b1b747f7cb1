-- The reading of a JSON value as the tables of a recording's traces. (Own.)
use Rattle.std.specs.Prelude.{ℕ, ◌+◌, ◌≡◌, ◌==◌, Bool, true, false, List, [], ◌∷◌, Option, Some, None, Result, Ok, Err, length, min, slice_index_or, if◌then◌else◌}
use Rattle.serde_json.specs.Data.{Data, null, boolean, number, string, array, object, Items, no_items, item}
use Rattle.ray_cmd.specs.declared.command.Command.{Command}
use Rattle.ray_pipe.specs.declared.fault.TableFault.{TableFault}
use Rattle.ray_pipe.specs.declared.fault.TableFault.TheVariants.{BadTable, NoMemory}
use Rattle.ray_pipe.specs.HitGroup.{Table}
use Rattle.ray_pipe.specs.Shapes.{table_of}
use Rattle.ray_pipe.specs.Tables.{TraceTables, counts_of, traces_of}

infixl 10 ◌>>=◌
-- what is read after the first, or why the first is none
abbrev pub ◌>>=◌ : {A B : Type 0} → Result A TableFault → (A → Result B TableFault) → Result B TableFault
Ok x >>= next = next x
Err fault >>= next = Err fault

-- the table that an entry spells; none where its trace has a script of its own
abbrev pub entry_of : Bool → Data → Option Table
entry_of true d = None
entry_of false d = table_of d

-- what is spelled by entry number k, which is bad where nothing is
abbrev pub or_bad : {A : Type 0} → ℕ → Option A → Result A TableFault
or_bad k None = Err (BadTable k)
or_bad k (Some x) = Ok x

-- the tables that items from number k on spell, each for the trace with its number, where there is one
unfoldable pub tables_from : List Bool → ℕ → Items → Result (List Table) TableFault
tables_from traces k no_items = Ok []
tables_from traces k (item d ds) =
    or_bad k (entry_of (slice_index_or traces k false) d) >>= λ table.
    tables_from traces (k + 1) ds >>= λ tables.
    Ok (table ∷ tables)

-- the tables that a value spells: it is an array of them
abbrev pub listed_tables : List Bool → Data → Result (List Table) TableFault
listed_tables traces null = Err (BadTable 0)
listed_tables traces (boolean b) = Err (BadTable 0)
listed_tables traces (number n) = Err (BadTable 0)
listed_tables traces (string s) = Err (BadTable 0)
listed_tables traces (array ds) = tables_from traces 0 ds
listed_tables traces (object ms) = Err (BadTable 0)

-- the tables, where there are as many as traces
abbrev pub counted : List Bool → List ℕ → List Table → Result TraceTables TableFault
counted traces counts tables =
    if length tables == length traces then Ok (record { tables = tables; counts = counts })
    else Err (BadTable (min (length tables) (length traces)))

-- the tables of a recording's traces that a value spells
abbrev pub tables_of : List Command → Data → Result TraceTables TableFault
tables_of cs d = listed_tables (traces_of cs) d >>= counted (traces_of cs) (counts_of cs)

-- the answer is what is spelled; want of memory is free
abbrev pub Answers : {A : Type 0} → Result A TableFault → Result A TableFault → Type 0
Answers (Ok x) spelled = spelled ≡ Ok x
Answers (Err (BadTable k)) spelled = spelled ≡ Err (BadTable k)
Answers (Err NoMemory) spelled = Unit {0}

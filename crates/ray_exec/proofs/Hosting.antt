-- What a command of the host leaves, and what of a piece is stored.
use Rattle.std.proofs.Common.{ℕ, ◌≡◌, ◌++◌, List, [], ◌∷◌, Option, Some, None, true, refl, ap, sym, subst, ◌∙◌}
use Rattle.std.specs.Prelude.{IsSome, not}
use Rattle.ray_cmd.specs.declared.command.Command.{Command}
use Rattle.ray_cmd.specs.declared.command.Command.TheVariants as commands
use Rattle.ray_cmd.specs.declared.thing.Thing.TheVariants as things
use Rattle.ray_rules.specs.Status.{Status}
use Rattle.ray_rules.specs.Ranges.{range}
use Rattle.ray_rules.specs.Kinds.{kind_of}
use Rattle.ray_action.specs.Memory.{Location, Memory, bytes_at}
use Rattle.ray_action.specs.Clients.{Clients, Meaning}
use Rattle.ray_action.specs.Outcomes.{Output, Outcome, Nothing, Bytes, Gives, bytes_outcome, outcome_of}
use Rattle.ray_action.specs.Pieces.{actions_of, host_action}
use Rattle.ray_action.specs.Readiness.{IsReady}
use Rattle.ray_action.specs.Running.{text_with}
use Rattle.ray_action.specs.Storing.{put}
use Rattle.ray_device.specs.declared.piece.Piece.{Piece}
use Rattle.ray_device.specs.Pieces.{IsPiece, is_device, piece_action}
use Rattle.ray_device.specs.Storing.{IsStorable}
use Rattle.ray_device.proofs.Storable.{outputs-are_storable}
use Rattle.ray_exec.specs.Steps.{IsShown, piece_outcome}

-- it has one action
pub host_parts : (rec : List Command) (z : Status) (c : Command) → not (is_device c) ≡ true → actions_of rec z c ≡ host_action c ∷ []
unfolding kind_of actions_of host_action
host_parts rec z (commands.Buffer id size usage content) host = refl
host_parts rec z (commands.Structure id kind buffer offset size) host = refl
host_parts rec z (commands.Destroy what id) host = refl
host_parts rec z (commands.Sizes kind counts) host = refl
host_parts rec z commands.Begin host = refl
host_parts rec z commands.End host = refl
host_parts rec z commands.Submit host = refl
host_parts rec z commands.Wait host = refl
host_parts rec z (commands.Read buffer offset size form) host = refl
host_parts rec z (commands.Update buffer offset content) host = absurd cc
host_parts rec z (commands.Fill buffer offset size value) host = absurd cc
host_parts rec z (commands.Copy src dst regions) host = absurd cc
host_parts rec z (commands.Build infos) host = absurd cc
host_parts rec z (commands.CopyStructure mode src dst) host = absurd cc
host_parts rec z (commands.Serialize src dst form) host = absurd cc
host_parts rec z (commands.Deserialize src dst uses) host = absurd cc
host_parts rec z (commands.Property what structures dst) host = absurd cc
host_parts rec z (commands.Barrier src_stages src_access dst_stages dst_access buffers) host = absurd cc
host_parts rec z (commands.Trace top rays count hits flags mask script) host = absurd cc

-- what it gives
record GivesSome (outcome : Outcome) : Type 0 where
  output : Output
  gives : outcome ≡ Gives output

bytes-give : (read : Option (List ℕ)) → IsSome read → GivesSome (bytes_outcome read)
bytes-give None there = absurd cc
bytes-give (Some bytes) there = record { output = Bytes bytes; gives = refl }

host-gives : (meaning : Meaning) (c : Command) (m : Memory) → IsReady (host_action c) m → GivesSome (outcome_of meaning (host_action c) m)
unfolding host_action
host-gives meaning (commands.Buffer id size usage content) m ready = record { output = Nothing; gives = refl }
host-gives meaning (commands.Structure id kind buffer offset size) m ready = record { output = Nothing; gives = refl }
host-gives meaning (commands.Destroy things.Buffer id) m ready = record { output = Nothing; gives = refl }
host-gives meaning (commands.Destroy things.Structure id) m ready = record { output = Nothing; gives = refl }
host-gives meaning (commands.Sizes kind counts) m ready = record { output = Nothing; gives = refl }
host-gives meaning commands.Begin m ready = record { output = Nothing; gives = refl }
host-gives meaning commands.End m ready = record { output = Nothing; gives = refl }
host-gives meaning commands.Submit m ready = record { output = Nothing; gives = refl }
host-gives meaning commands.Wait m ready = record { output = Nothing; gives = refl }
host-gives meaning (commands.Read buffer offset size form) m ready = bytes-give (bytes_at m (range buffer offset size)) ready
host-gives meaning (commands.Update buffer offset content) m ready = record { output = Nothing; gives = refl }
host-gives meaning (commands.Fill buffer offset size value) m ready = record { output = Nothing; gives = refl }
host-gives meaning (commands.Copy src dst regions) m ready = record { output = Nothing; gives = refl }
host-gives meaning (commands.Build infos) m ready = record { output = Nothing; gives = refl }
host-gives meaning (commands.CopyStructure mode src dst) m ready = record { output = Nothing; gives = refl }
host-gives meaning (commands.Serialize src dst form) m ready = record { output = Nothing; gives = refl }
host-gives meaning (commands.Deserialize src dst uses) m ready = record { output = Nothing; gives = refl }
host-gives meaning (commands.Property what structures dst) m ready = record { output = Nothing; gives = refl }
host-gives meaning (commands.Barrier src_stages src_access dst_stages dst_access buffers) m ready = record { output = Nothing; gives = refl }
host-gives meaning (commands.Trace top rays count hits flags mask script) m ready = record { output = Nothing; gives = refl }

-- what is left of it doesn't depend on that
host-puts : (c : Command) (o : Output) (m : Memory) (l : Location) → put (host_action c) (Gives Nothing) m l ≡ put (host_action c) (Gives o) m l
unfolding host_action
host-puts (commands.Buffer id size usage content) o m l = refl
host-puts (commands.Structure id kind buffer offset size) o m l = refl
host-puts (commands.Destroy things.Buffer id) o m l = refl
host-puts (commands.Destroy things.Structure id) o m l = refl
host-puts (commands.Sizes kind counts) o m l = refl
host-puts commands.Begin o m l = refl
host-puts commands.End o m l = refl
host-puts commands.Submit o m l = refl
host-puts commands.Wait o m l = refl
host-puts (commands.Read buffer offset size form) o m l = refl
host-puts (commands.Update buffer offset content) o m l = refl
host-puts (commands.Fill buffer offset size value) o m l = refl
host-puts (commands.Copy src dst regions) o m l = refl
host-puts (commands.Build infos) o m l = refl
host-puts (commands.CopyStructure mode src dst) o m l = refl
host-puts (commands.Serialize src dst form) o m l = refl
host-puts (commands.Deserialize src dst uses) o m l = refl
host-puts (commands.Property what structures dst) o m l = refl
host-puts (commands.Barrier src_stages src_access dst_stages dst_access buffers) o m l = refl
host-puts (commands.Trace top rays count hits flags mask script) o m l = refl

-- so it is done once its text is appended and what it makes is in the memory, whoever decides
pub is_shown : (c : Command) (old new : Memory) (text_old text_new : List ℕ) → IsReady (host_action c) old
    → ((meaning : Meaning) → text_new ≡ text_old ++ text_with (host_action c) (outcome_of meaning (host_action c) old))
    → ((l : Location) → new l ≡ put (host_action c) (Gives Nothing) old l)
    → (meaning : Meaning) → IsShown meaning (host_action c) old new text_old text_new
is_shown c old new text_old text_new ready text stored meaning =
    let given = host-gives meaning c old ready in
    record {
      output = given.output;
      gives = given.gives;
      memory = λ l. stored l ∙ host-puts c given.output old l;
      text = text meaning ∙ ap (λ x. text_old ++ text_with (host_action c) x) given.gives;
    }

-- ---- pieces

-- what a piece that was ready gives can be stored
pub can_be_stored : (clients : Clients) (rec : List Command) (piece other : Piece) (output : Output) (m : Memory) → other ≡ piece → IsReady (piece_action rec piece) m
    → piece_outcome rec clients piece m ≡ Gives output → IsStorable (piece_action rec other) output m
can_be_stored clients rec piece other output m same ready gives =
    subst (λ p. IsStorable (piece_action rec p) output m) (sym same) (outputs-are_storable (clients piece.command) (piece_action rec piece) m output ready gives)

pub is_that_piece : (rec : List Command) (piece other : Piece) → other ≡ piece → IsPiece rec piece → IsPiece rec other
is_that_piece rec piece other same is = subst (IsPiece rec) (sym same) is

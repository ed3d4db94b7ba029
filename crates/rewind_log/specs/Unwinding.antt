-- What going back to a place of a journal comes to, where the journal's first and last shape
-- are told (this project's profile).
use Rattle.std.specs.Prelude.{◌≡◌, ℕ, List, length}
use Rattle.std.specs.declared.result.Result.{Result}
use Rattle.std.specs.declared.result.Result.TheVariants.{Ok, Err}
use Rattle.amoebot_state.specs.declared.verdict.Entry.{Entry}
use Rattle.amoebot_state.specs.declared.verdict.Verdict.{Verdict}
use Rattle.amoebot_state.specs.Configs.{Config}
use Rattle.amoebot_state.specs.Zones.{Shown}
use Rattle.rewind_log.specs.Rewinds.{IsBack, IsLastNoStep}

-- a first and a last configuration have the same area and the same walls, and as many amoebots
pub record HasSameFrame (start last : Config) : Type 0 where
  pub area : last.area ≡ start.area
  pub walls : last.walls ≡ start.walls
  pub size : length last.bots ≡ length start.bots

-- the world at a place of the entries, or the place at which they differ: their number,
-- where the first and the last configuration do not have the same area,
-- walls and number of amoebots; else the greatest place, not below the one,
-- from which there is no step
pub data IsUnwound (f : Shown → Verdict) (start last : Config)
    (entries : List Entry) (place : ℕ) : Result Config ℕ → Type 0 where
  other_frame : ¬ HasSameFrame start last
      → IsUnwound f start last entries place (Err (length entries))
  no_way_back : (k : ℕ) → HasSameFrame start last → IsLastNoStep f last entries place k
      → IsUnwound f start last entries place (Err k)
  at_place : (world : Config) → HasSameFrame start last → IsBack f last entries place world
      → IsUnwound f start last entries place (Ok world)

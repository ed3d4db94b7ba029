-- How an own list lies in memory: heads, and the cells of all patches side by side.
use Rattle.std.specs.Prelude.{ℕ, ◌+◌, ◌-◌, ◌*◌, ◌≤◌, List, Vec, map, length, slice_range, vec_len, vec_capacity}
use Rattle.std.specs.List.{All}
use Rattle.std.specs.declared.alloc.Global.{Global}
use Rattle.amoebot_state.specs.declared.verdict.Entry.{Entry}
use Rattle.amoebot_state.specs.Limits.{most_pairs}
use Rattle.amoebot_state.specs.Pairs.{CellChange, Triples, triples_alike}
use Rattle.amoebot_state.specs.Steps.{entry_of}
use Rattle.ticket_commit.specs.declared.own.Head.{Head}

-- the entry of a head, whose patch is the cells from its start to its end
abbrev pub entry_of_head : Triples → Head → Entry
entry_of_head triples h =
    entry_of h.caller h.turn h.bot
    (record { action = h.action; moved = h.moved; patch = slice_range triples h.start h.end })

-- the entries of heads, each with its place
abbrev pub unpacked : List Head → Triples → List (ℕ × Entry)
unpacked heads triples = map (λ (h : Head). (h.place, entry_of_head triples h)) heads

-- the cells of a head are at most ten of these many
pub record HasCells (cells : ℕ) (h : Head) : Type 0 where
  pub ordered : h.start ≤ h.end
  pub within : h.end ≤ cells
  pub few : h.end ≤ h.start + most_pairs

-- what an own list keeps: the cells of each head are there, so many entries were taken,
-- and where there is room for a head there is room for the cells of a patch
pub record IsPacked (heads : Vec Head Global) (triples : Vec CellChange Global) (taken : ℕ) : Type 0 where
  pub alike : triples_alike triples.items
  pub cells : All (HasCells (length triples.items)) heads.items
  pub front : taken ≤ vec_len heads
  pub room : vec_len triples + most_pairs * (vec_capacity heads - vec_len heads) ≤ vec_capacity triples

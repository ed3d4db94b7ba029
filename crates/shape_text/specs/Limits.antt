-- How far a coordinate of a text may be from 0. The limit is this project's profile.
use Rattle.std.specs.Prelude.{ℕ}

-- the farthest that a coordinate may be from 0
abbrev pub most_coordinate : ℕ
most_coordinate = 9999

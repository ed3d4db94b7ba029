-- The program and the shape of a document may run.
use Rattle.std.proofs.Common.{◌≡◌, ◌≤◌, false, [], Option, Some, subst}
use Rattle.std.specs.Option.{IfSome}
use Rattle.amoebot_state.specs.Configs.{Config}
use Rattle.amoebot_state.specs.Limits.{most_vars}
use Rattle.shape_text.specs.Parts.{may_have_walls}
use Rattle.action_tree.specs.Trees.{Program}
use Rattle.action_check.specs.Faults.{faults}
use Rattle.action_check.specs.Maxes.{maxes_of}
use Rattle.shape_files.specs.Documents.{Contents, var_count, maxes_in}
use Rattle.shape_files.specs.Fitting.{FitTogether, IsSoundDocument, IsWorldShape}
use Rattle.commands.proofs.Worlds.{MayRun}

module _ (a : Contents) (p : Program) (start : Config) (fits : FitTogether a) (sound : IsSoundDocument a) (its_program : a.checked ≡ Some p) (its_shape : a.world ≡ Some start) where
  pub drawn : IsWorldShape start
  drawn = subst (λ (o : Option Config). IfSome o IsWorldShape) its_shape sound.world

  start_maxes : start.maxes ≡ maxes_of p
  start_maxes =
      let of : start.maxes ≡ maxes_in a.checked = subst (λ (o : Option Config). IfSome o (λ c. c.maxes ≡ maxes_in a.checked)) its_shape fits.world in
      subst (λ (o : Option Program). start.maxes ≡ maxes_in o) its_program of

  pub start_walls : may_have_walls a.version ≡ false → start.walls ≡ []
  start_walls none = subst (λ (o : Option Config). IfSome o (λ c. c.walls ≡ [])) its_shape (fits.walls none).0

  pub may : MayRun p start
  may = record {
    vars = subst (λ (o : Option Program). var_count o ≤ most_vars) its_program fits.vars;
    checked = subst (λ (o : Option Program). IfSome o (λ q. faults q ≡ [])) its_program fits.checked;
    maxes = start_maxes;
    few = drawn.few;
    no_gaps = drawn.no_gaps;
  }

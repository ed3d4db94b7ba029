-- The ports of a set are those of the twelve pairs that belong to it, one pair after the other.
use Rattle.std.proofs.Common.{◌≡◌, ◌≤◌, ◌<◌, ◌+◌, ◌∙◌, ℕ, Bool, true, false, List, [], ◌∷◌, length, drop, get_or, refl, ap}
use Rattle.std.specs.List.{filter}
use Rattle.std.proofs.Math.ListN.{drop_of_length-le}
use Rattle.std.proofs.lemmas.List.{drop_more}
use Rattle.amoebot_state.specs.declared.bot.Port.{Port}
use Rattle.amoebot_state.specs.Ports.{all_ports}
use Rattle.model_ops.specs.Sights.{Sight}
use Rattle.action_tree.specs.declared.expression.PortSet.{PortSet}
use Rattle.action_tree.specs.declared.expression.PortSet.TheVariants.{Ports, Free}
use Rattle.action_meaning.specs.Values.{ports_of}
use Rattle.action_eval.specs.Known.{is_in_set}

pub all_in_set : (s : Sight) (set : PortSet) → filter (is_in_set s set) all_ports ≡ ports_of s set
all_in_set s Ports = refl
all_in_set s Free = refl

-- the ports of a set among some pairs, from one of them on
abbrev pub ports_from : Sight → PortSet → List Port → ℕ → List Port
ports_from s set ps i = filter (is_in_set s set) (drop i ps)

passes : (test : Port → Bool) (p : Port) (ps : List Port) → test p ≡ true → filter test (p ∷ ps) ≡ p ∷ filter test ps
passes test p ps e = rw e refl

stays_out : (test : Port → Bool) (p : Port) (ps : List Port) → test p ≡ false → filter test (p ∷ ps) ≡ filter test ps
stays_out test p ps e = rw e refl

-- what comes of all ports comes of those from a pair on, of which the first one, where it is a port of the set, tells what that is
pub told_here : {A : Type 0} (f : List Port → A) (whole : A) (s : Sight) (set : PortSet) (ps : List Port) (i : ℕ) (d : Port) (r : A) → whole ≡ f (ports_from s set ps i) → i < length ps → is_in_set s set (get_or ps i d) ≡ true → f (get_or ps i d ∷ ports_from s set ps (i + 1)) ≡ r → whole ≡ r
told_here f whole s set ps i d r left l is e =
    let test = is_in_set s set in
    left ∙ ap f (ap (filter test) (drop_more ps i d l) ∙ passes test (get_or ps i d) (drop (i + 1) ps) is) ∙ e

-- where it is none, the others tell
pub told_behind : {A : Type 0} (f : List Port → A) (whole : A) (s : Sight) (set : PortSet) (ps : List Port) (i : ℕ) (d : Port) → whole ≡ f (ports_from s set ps i) → i < length ps → is_in_set s set (get_or ps i d) ≡ false → whole ≡ f (ports_from s set ps (i + 1))
told_behind f whole s set ps i d left l is =
    let test = is_in_set s set in
    left ∙ ap f (ap (filter test) (drop_more ps i d l) ∙ stays_out test (get_or ps i d) (drop (i + 1) ps) is)

-- behind the last pair
pub told_over : {A : Type 0} (f : List Port → A) (whole : A) (s : Sight) (set : PortSet) (ps : List Port) (i : ℕ) → whole ≡ f (ports_from s set ps i) → length ps ≤ i → whole ≡ f []
told_over f whole s set ps i left l = left ∙ ap (λ qs. f (filter (is_in_set s set) qs)) (drop_of_length-le ps l)

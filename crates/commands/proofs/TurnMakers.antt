-- Who makes the turns of a command: nobody, or workers or others.
use Rattle.std.proofs.Common.{◌≡◌, ◌≢◌, ◌⊎◌, inl, inr, Bool, true, false, true≢false, ap, refl, sym, ◌∙◌}
use Rattle.commands.specs.Commands.{TurnMaker, no_maker, the_schedule, the_workers, the_tickets}

-- workers make them in either way
abbrev pub WorkersMake : TurnMaker → Type 0
WorkersMake m = (m ≡ the_workers) ⊎ (m ≡ the_tickets)

abbrev pub has_workers : TurnMaker → Bool
has_workers no_maker = false
has_workers the_schedule = false
has_workers the_workers = true
has_workers the_tickets = true

workers_are : (m : TurnMaker) → WorkersMake m → has_workers m ≡ true
workers_are m (inl is) = ap has_workers is
workers_are m (inr is) = ap has_workers is

pub has_none : (m : TurnMaker) → has_workers m ≡ false → WorkersMake m → ⊥
has_none m without works = true≢false (sym (workers_are m works) ∙ without)

-- where nobody makes turns, no workers do
pub nobody_works : (m : TurnMaker) → m ≡ no_maker → WorkersMake m → ⊥
nobody_works m none works = has_none m (ap has_workers none) works

pub works_or_not : (m : TurnMaker) → WorkersMake m ⊎ (WorkersMake m → ⊥)
works_or_not no_maker = inr (has_none no_maker refl)
works_or_not the_schedule = inr (has_none the_schedule refl)
works_or_not the_workers = inl (inl refl)
works_or_not the_tickets = inl (inr refl)

-- these make turns
pub workers_make : the_workers ≢ no_maker
workers_make e = cc

pub tickets_make : the_tickets ≢ no_maker
tickets_make e = cc

pub the_schedule_makes : the_schedule ≢ no_maker
the_schedule_makes e = cc

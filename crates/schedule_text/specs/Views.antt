-- What the code reads, as what the grammars say that it stands for.
use Rattle.schedule_text.specs.declared.schedule.Stretch as code_stretch
use Rattle.schedule_text.specs.Schedules.{Stretch, stretch_of}

abbrev pub stretch : code_stretch.Stretch → Stretch
stretch s = stretch_of s.caller s.times

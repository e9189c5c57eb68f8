-- What of the cleaner outlives a crash.
use Rattle.std.specs.Prelude.{Bool, ◌&&◌}
use Rattle.node_base.specs.Room.{has_room}
use Rattle.cleaner_job.specs.declared.lasting.Lasting.{Lasting}

abbrev pub lasting_has_room : Lasting → Bool
lasting_has_room l = has_room l.inc && has_room l.questions.last

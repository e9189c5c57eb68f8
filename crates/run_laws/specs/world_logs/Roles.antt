-- Whose log it is: a client's, the cleaner's, or a manager's. The small world of a log has its owner by name and by number.
use Rattle.node_logs.specs.client_log_tie.Owner.{Scene}
use Rattle.node_logs.specs.node_log_tie.Sight.{Asker}
use Rattle.headline.specs.Logs.{Role, owner_by}

abbrev pub asker_by : Role → Scene → Asker
asker_by r w = record { node = owner_by r; asked = w.asked }

use Rattle.group_map.proofs.Presence.{is_present}
use Rattle.group_map.proofs.laws.current_members_are_present.Goals as goal

pub returns : goal.returns
returns c = λ state h id group e current. is_present state id group h.present e current

use Rattle.index_tie.proofs.Lines.{lines_are_filed, lines_are_linked, filed_names_are_ends, feeds_are_fed, lines_grow}
use Rattle.index_tie.proofs.lines_are_filed.Goals as goal

pub returns : goal.returns
returns c = record { filed = lines_are_filed; linked = lines_are_linked; ends = filed_names_are_ends; feeds = feeds_are_fed; grow = lines_grow }

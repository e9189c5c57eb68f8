-- The laws of logs, taken together, as the crates above stand on them.
use Rattle.log_law.specs.BeingRead.{WhatIsReadIsWhole}
use Rattle.log_law.specs.Boots.{ARestartFilesOneOfItsBoot}
use Rattle.log_law.specs.Ends.{EndsAreLast, FilesItsFlight}
use Rattle.log_law.specs.Groups.{EndsNameGroups, PriorsNameGroups}
use Rattle.log_law.specs.Held.{WhatFlewIsOfTheLog, WhatIsHeldFlew, WhatIsListedFlew}
use Rattle.log_law.specs.Laws.{AReopeningAdopts, LogsStayInLine, LogsStayWhole, OneNameOneText, TheFeedIsWhole}
use Rattle.log_law.specs.Openings.{FliesNext, NothingFiledOpening, OpeningsGoOn}
use Rattle.log_law.specs.Places.{APlaceNamesOneContent}
use Rattle.log_law.specs.ReadBack.{OpeningsReadDown, ReopensBehind}
use Rattle.log_law.specs.Tails.{ARestartFilesTheTail, ATailIsFiledOrNever}
use Rattle.log_law.specs.Written.{WhatFlewIsWritten, WhatFliesIsNext, WhatIsReadBackIsLinked}

pub record LogLaws : Type 0 where
  -- of what is stored
  pub whole : LogsStayWhole
  pub one_text : OneNameOneText
  pub content : APlaceNamesOneContent
  pub read : WhatIsReadIsWhole
  -- of what was in flight, and what names it
  pub held : WhatIsHeldFlew
  pub own : WhatFlewIsOfTheLog
  pub listed : WhatIsListedFlew
  pub written : WhatFlewIsWritten
  pub next : WhatFliesIsNext
  pub linked : WhatIsReadBackIsLinked
  pub priors : PriorsNameGroups
  pub ends : EndsNameGroups
  -- of the line of what is filed, while no restart that ended was doubtful
  pub line : LogsStayInLine
  pub last : EndsAreLast
  pub flown : FilesItsFlight
  pub feed : TheFeedIsWhole
  pub adopts : AReopeningAdopts
  pub tail : ATailIsFiledOrNever
  pub only : ARestartFilesTheTail
  -- of openings
  pub down : OpeningsReadDown
  pub behind : ReopensBehind
  pub on : OpeningsGoOn
  pub flies : FliesNext
  pub unfiled : NothingFiledOpening
  pub one : ARestartFilesOneOfItsBoot

use Rattle.std.proofs.Common.{ap}
use Rattle.script_text.specs.declared.form.Form.{Form}
use Rattle.script_text.specs.declared.form.Form.TheVariants.{Bput, Bget, Sync, Mk, Mkdir, Put, Get, Size, Ls, Rm, Mv, ClientCrash, ClientRestart, Clean, ManagerCrash, ManagerRestart, Checkpoint, Lose, Rebuild, ServerStop, ServerStart, Move, BoardStop, BoardStart, NetLose, NetAgain, NetMix, NetStep}
use Rattle.script_text.specs.Spelling.{Context}
use Rattle.script_text.specs.Words.{words}
use Rattle.script_text.specs.Reading.{read_work}
use Rattle.script_text.proofs.Works.{work_is}
use Rattle.script_text.proofs.work.work_of.Goals as goal

pub returns-in-Bput : goal.returns-in-Bput
returns-in-Bput c =
    work_is (record { setup = c.args.setup.now; room = c.args.room }) c.args.form Bput (words c.args.line.now) c.bput.result c.in-Bput.is c.bput.ensures

pub returns-in-Bget : goal.returns-in-Bget
returns-in-Bget c =
    work_is (record { setup = c.args.setup.now; room = c.args.room }) c.args.form Bget (words c.args.line.now) c.bget.result c.in-Bget.is
    (c.bget.ensures c.args.room)

pub returns-in-Sync : goal.returns-in-Sync
returns-in-Sync c =
    work_is (record { setup = c.args.setup.now; room = c.args.room }) c.args.form Sync (words c.args.line.now) c.sync.result c.in-Sync.is
    (c.sync.ensures c.args.room)

pub returns-in-Mk : goal.returns-in-Mk
returns-in-Mk c =
    work_is (record { setup = c.args.setup.now; room = c.args.room }) c.args.form Mk (words c.args.line.now) c.mk.result c.in-Mk.is (c.mk.ensures c.args.room)

pub returns-in-Mkdir : goal.returns-in-Mkdir
returns-in-Mkdir c =
    work_is (record { setup = c.args.setup.now; room = c.args.room }) c.args.form Mkdir (words c.args.line.now) c.mkdir.result c.in-Mkdir.is
    (c.mkdir.ensures c.args.room)

pub returns-in-Put : goal.returns-in-Put
returns-in-Put c =
    work_is (record { setup = c.args.setup.now; room = c.args.room }) c.args.form Put (words c.args.line.now) c.put.result c.in-Put.is c.put.ensures

pub returns-in-Get : goal.returns-in-Get
returns-in-Get c =
    work_is (record { setup = c.args.setup.now; room = c.args.room }) c.args.form Get (words c.args.line.now) c.get.result c.in-Get.is
    (c.get.ensures c.args.room)

pub returns-in-Size : goal.returns-in-Size
returns-in-Size c =
    work_is (record { setup = c.args.setup.now; room = c.args.room }) c.args.form Size (words c.args.line.now) c.size.result c.in-Size.is
    (c.size.ensures c.args.room)

pub returns-in-Ls : goal.returns-in-Ls
returns-in-Ls c =
    work_is (record { setup = c.args.setup.now; room = c.args.room }) c.args.form Ls (words c.args.line.now) c.ls.result c.in-Ls.is (c.ls.ensures c.args.room)

pub returns-in-Rm : goal.returns-in-Rm
returns-in-Rm c =
    work_is (record { setup = c.args.setup.now; room = c.args.room }) c.args.form Rm (words c.args.line.now) c.rm.result c.in-Rm.is (c.rm.ensures c.args.room)

pub returns-in-Mv : goal.returns-in-Mv
returns-in-Mv c =
    work_is (record { setup = c.args.setup.now; room = c.args.room }) c.args.form Mv (words c.args.line.now) c.mv.result c.in-Mv.is (c.mv.ensures c.args.room)

pub returns-in-ClientCrash : goal.returns-in-ClientCrash
returns-in-ClientCrash c =
    work_is (record { setup = c.args.setup.now; room = c.args.room }) c.args.form ClientCrash (words c.args.line.now) c.client_crash.result c.in-ClientCrash.is
    (c.client_crash.ensures c.args.room)

pub returns-in-ClientRestart : goal.returns-in-ClientRestart
returns-in-ClientRestart c =
    work_is (record { setup = c.args.setup.now; room = c.args.room }) c.args.form ClientRestart
    (words c.args.line.now) c.client_restart.result c.in-ClientRestart.is (c.client_restart.ensures c.args.room)

pub returns-in-CleanerCrash : goal.returns-in-CleanerCrash
returns-in-CleanerCrash c =
    let x : Context = (record { setup = c.args.setup.now; room = c.args.room }) in
    ap (λ (f : Form). read_work x f (words c.args.line.now)) c.in-CleanerCrash.is

pub returns-in-CleanerRestart : goal.returns-in-CleanerRestart
returns-in-CleanerRestart c =
    let x : Context = (record { setup = c.args.setup.now; room = c.args.room }) in
    ap (λ (f : Form). read_work x f (words c.args.line.now)) c.in-CleanerRestart.is

pub returns-in-Clean : goal.returns-in-Clean
returns-in-Clean c =
    work_is (record { setup = c.args.setup.now; room = c.args.room }) c.args.form Clean (words c.args.line.now) c.clean.result c.in-Clean.is
    (c.clean.ensures (record { setup = c.args.setup.now; room = c.args.room }))

pub returns-in-ManagerCrash : goal.returns-in-ManagerCrash
returns-in-ManagerCrash c =
    work_is (record { setup = c.args.setup.now; room = c.args.room }) c.args.form ManagerCrash
    (words c.args.line.now) c.manager_crash.result c.in-ManagerCrash.is (c.manager_crash.ensures c.args.room)

pub returns-in-ManagerRestart : goal.returns-in-ManagerRestart
returns-in-ManagerRestart c =
    work_is (record { setup = c.args.setup.now; room = c.args.room }) c.args.form ManagerRestart
    (words c.args.line.now) c.manager_restart.result c.in-ManagerRestart.is (c.manager_restart.ensures c.args.room)

pub returns-in-Checkpoint : goal.returns-in-Checkpoint
returns-in-Checkpoint c =
    work_is (record { setup = c.args.setup.now; room = c.args.room }) c.args.form Checkpoint (words c.args.line.now) c.checkpoint.result c.in-Checkpoint.is
    (c.checkpoint.ensures c.args.room)

pub returns-in-Lose : goal.returns-in-Lose
returns-in-Lose c =
    work_is (record { setup = c.args.setup.now; room = c.args.room }) c.args.form Lose (words c.args.line.now) c.lose.result c.in-Lose.is
    (c.lose.ensures c.args.room)

pub returns-in-Rebuild : goal.returns-in-Rebuild
returns-in-Rebuild c =
    work_is (record { setup = c.args.setup.now; room = c.args.room }) c.args.form Rebuild (words c.args.line.now) c.rebuild.result c.in-Rebuild.is
    (c.rebuild.ensures c.args.room)

pub returns-in-ServerStop : goal.returns-in-ServerStop
returns-in-ServerStop c =
    work_is (record { setup = c.args.setup.now; room = c.args.room }) c.args.form ServerStop (words c.args.line.now) c.server_stop.result c.in-ServerStop.is
    (c.server_stop.ensures c.args.room)

pub returns-in-ServerStart : goal.returns-in-ServerStart
returns-in-ServerStart c =
    work_is (record { setup = c.args.setup.now; room = c.args.room }) c.args.form ServerStart (words c.args.line.now) c.server_start.result c.in-ServerStart.is
    (c.server_start.ensures c.args.room)

pub returns-in-Move : goal.returns-in-Move
returns-in-Move c =
    work_is (record { setup = c.args.setup.now; room = c.args.room }) c.args.form Move (words c.args.line.now) c.reassign.result c.in-Move.is
    (c.reassign.ensures c.args.room)

pub returns-in-BoardStop : goal.returns-in-BoardStop
returns-in-BoardStop c =
    work_is (record { setup = c.args.setup.now; room = c.args.room }) c.args.form BoardStop (words c.args.line.now) c.board_stop.result c.in-BoardStop.is
    (c.board_stop.ensures (record { setup = c.args.setup.now; room = c.args.room }))

pub returns-in-BoardStart : goal.returns-in-BoardStart
returns-in-BoardStart c =
    work_is (record { setup = c.args.setup.now; room = c.args.room }) c.args.form BoardStart (words c.args.line.now) c.board_start.result c.in-BoardStart.is
    (c.board_start.ensures (record { setup = c.args.setup.now; room = c.args.room }))

pub returns-in-NetLose : goal.returns-in-NetLose
returns-in-NetLose c =
    work_is (record { setup = c.args.setup.now; room = c.args.room }) c.args.form NetLose (words c.args.line.now) c.net_lose.result c.in-NetLose.is
    (c.net_lose.ensures (record { setup = c.args.setup.now; room = c.args.room }))

pub returns-in-NetAgain : goal.returns-in-NetAgain
returns-in-NetAgain c =
    work_is (record { setup = c.args.setup.now; room = c.args.room }) c.args.form NetAgain (words c.args.line.now) c.net_again.result c.in-NetAgain.is
    (c.net_again.ensures (record { setup = c.args.setup.now; room = c.args.room }))

pub returns-in-NetMix : goal.returns-in-NetMix
returns-in-NetMix c =
    work_is (record { setup = c.args.setup.now; room = c.args.room }) c.args.form NetMix (words c.args.line.now) c.net_mix.result c.in-NetMix.is
    (c.net_mix.ensures (record { setup = c.args.setup.now; room = c.args.room }))

pub returns-in-NetHold : goal.returns-in-NetHold
returns-in-NetHold c =
    let x : Context = (record { setup = c.args.setup.now; room = c.args.room }) in
    ap (λ (f : Form). read_work x f (words c.args.line.now)) c.in-NetHold.is

pub returns-in-NetGo : goal.returns-in-NetGo
returns-in-NetGo c =
    let x : Context = (record { setup = c.args.setup.now; room = c.args.room }) in
    ap (λ (f : Form). read_work x f (words c.args.line.now)) c.in-NetGo.is

pub returns-in-NetStep : goal.returns-in-NetStep
returns-in-NetStep c =
    work_is (record { setup = c.args.setup.now; room = c.args.room }) c.args.form NetStep (words c.args.line.now) c.net_step.result c.in-NetStep.is
    (c.net_step.ensures (record { setup = c.args.setup.now; room = c.args.room }))

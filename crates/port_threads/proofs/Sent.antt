-- What the worker of a port has may go to its thread.
use denote.Param.Send.{IsSend, recorded_send, sendable, struct_send, view_send}
use denote.RattleType.{RattleType}
use denote.Struct.Declared as Declared
use Rattle.std.below.std_heap.proofs.GlobalAllocator.TheSendSync as heap
use Rattle.std.proofs.alloc.Global.TheSendSync as global
use Rattle.std.proofs.option.Option.TheSendSync as option
use Rattle.std.proofs.sync.Arc.TheSendSync as arc
use Rattle.std.proofs.vec.Vec.TheSendSync as vec
use Rattle.std.specs.contracts.alloc.Global as Global
use Rattle.std.specs.contracts.impls.GlobalAllocator.TheImpl as allocator
use Rattle.std.specs.contracts.snapshot.Snapshot as Snapshot
use Rattle.bridge.proofs.routing.Bridge.TheSendSync as bridge
use Rattle.bridge.specs.contracts.routing.Bridge as Bridge
use Rattle.fab_types.proofs.id.DomainId.TheSendSync as domain_id
use Rattle.fab_types.proofs.id.PortId.TheSendSync as port_id
use Rattle.fab_types.proofs.violation.Violation.TheSendSync as violation
use Rattle.frame_log.proofs.frame.Frame.TheSendSync as frame
use Rattle.frame_log.specs.contracts.frame.Frame as Frame
use Rattle.thread_workers.proofs.link_side.LinkSide.TheSendSync as side
use Rattle.thread_domains.proofs.locks.Locks.TheSendSync as locks
use Rattle.thread_domains.specs.contracts.locks.Locks as Locks
use Rattle.monitor.proofs.queue_reporter.QueueReporter.TheSendSync as reporter
use Rattle.platform.proofs.parts.DownstreamPort.TheSendSync as line
use Rattle.port.proofs.config.Exit.TheSendSync as exit
use Rattle.port.specs.contracts.config.Exit as Exit
use Rattle.port.specs.contracts.port.Port as Port
use Rattle.port.specs.contracts.port.Port.TheInside as PortInside
use Rattle.thread_workers.specs.contracts.ports.port_work.PortWork as PortWork
use Rattle.thread_workers.specs.contracts.ports.port_work.PortWork.TheInside as WorkInside
use Rattle.switch_output.specs.contracts.vetted_frame.VettedFrame as VettedFrame
use Rattle.switch_output.specs.contracts.vetted_frame.VettedFrame.TheInside as VettedInside

-- A value for contracts alone owns nothing.
snapshot_send : (Y : RattleType) → IsSend (Snapshot.the_row Y)
snapshot_send Y = record { owned = λ d vs. ((λ vss. (tt, ((λ uss. (tt, tt)), tt))), tt); leaving = λ k f vs. tt }

pub vetted_send : IsSend VettedFrame.the_row
vetted_send =
    view_send VettedInside.the_row _ _ _ _
    (recorded_send (VettedInside.the_field).row _ _ (VettedInside.the_type).to_one
    (struct_send (Declared.shape VettedInside.the_type)
    (frame.the_send, (search (sendable, option.the_field_send, domain_id.the_send), (snapshot_send Bridge.the_row, tt)))))

pub port_send : IsSend Port.the_row
port_send =
    view_send PortInside.the_row _ _ _ _
    (recorded_send (PortInside.the_field).row _ _ (PortInside.the_type).to_one
    (struct_send (Declared.shape PortInside.the_type) (
      port_id.the_send,
      (
        search (sendable, option.the_field_send, line.the_send),
        (
          vec.the_send Exit.the_row Global.the_row allocator.ghosts exit.the_send global.the_send heap.the_frees,
          (
            search sendable,
            (
              search (sendable, option.the_field_send, violation.the_send),
              (search (sendable, option.the_field_send, vetted_send), (vec.the_send Frame.the_row Global.the_row allocator.ghosts frame.the_send global.the_send heap.the_frees, tt)),
            ),
          ),
        ),
      ),
    )))

pub port_work_send : IsSend PortWork.the_row
port_work_send =
    view_send WorkInside.the_row _ _ _ _
    (recorded_send (WorkInside.the_field).row _ _ (WorkInside.the_type).to_one
    (struct_send (Declared.shape WorkInside.the_type) (
      port_send,
      (
        arc.the_send Bridge.the_row Global.the_row allocator.ghosts bridge.the_send global.the_send bridge.the_sync global.the_sync heap.the_frees,
        (
          side.the_send,
          (
            arc.the_send Locks.the_row Global.the_row allocator.ghosts locks.the_send global.the_send locks.the_sync global.the_sync heap.the_frees,
            (reporter.the_send, tt),
          ),
        ),
      ),
    )))

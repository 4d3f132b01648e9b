use Rattle.device.proofs.fault.DeviceFault.as_str.Goals as goal

pub returns-in-Outside : goal.returns-in-Outside
returns-in-Outside c = rw c.in-Outside.is

pub returns-in-Off : goal.returns-in-Off
returns-in-Off c = rw c.in-Off.is

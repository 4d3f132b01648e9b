-- A fault of a page, or of the device, as a fault of the store.
use Rattle.device.specs.declared.fault.DeviceFault.{DeviceFault}
use Rattle.page.specs.Faults.{from_device as page_from_device}
use Rattle.page.specs.declared.fault.PageFault.{PageFault}
use Rattle.faults.specs.declared.fault.StoreFault.{StoreFault}
use Rattle.faults.specs.declared.fault.StoreFault.TheVariants.{Page}

abbrev pub from_page : PageFault → StoreFault
from_page f = Page f

abbrev pub from_device : DeviceFault → StoreFault
from_device f = from_page (page_from_device f)

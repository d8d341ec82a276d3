-- The stores of every call at the door, and the volume where they are cut.
use Rattle.std.specs.Prelude.{true, false, List, [], ℕ}
use Rattle.disk_geometry.specs.declared.Geometry.{Geometry}
use Rattle.disk_stores.specs.Stores.{Store, cut}
use Rattle.call_served.specs.declared.Call.{Call}
use Rattle.call_served.specs.declared.Call.TheVariants.{LogIn, Open, Close, SearchFirst, SearchNext, Delete, Make, Rename, Protect, Attributes, User, Size, SetRandom, Moves, Unserved}
use Rattle.call_served.specs.declared.Transfer.{Transfer}
use Rattle.call_served.specs.declared.Transfer.TheVariants.{ReadSequential, WriteSequential, ReadRandom, WriteRandom, WriteZeroFill, ReadSeveral, WriteSeveral}
use Rattle.call_served.specs.Calls.{call_of}
use Rattle.call_served.specs.Asked.{Asked}
use Rattle.filecalls.specs.declared.Drive.{Drive}
use Rattle.filecalls.specs.Stores.{delete_stores, make_stores, rename_stores, attributes_stores, sequential_stores, direct_stores}
use Rattle.several.specs.Stores.{several_stores}

-- a call that moves records, by its parameter, state, volume, control block and buffer; a read stores nothing
unfoldable pub transfer_stores : Transfer → ℕ → Drive → List ℕ → List ℕ → List ℕ → List Store
transfer_stores ReadSequential p d v fcb b = []
transfer_stores WriteSequential p d v fcb b = sequential_stores d v fcb b
transfer_stores ReadRandom p d v fcb b = []
transfer_stores WriteRandom p d v fcb b = direct_stores false d v fcb b
transfer_stores WriteZeroFill p d v fcb b = direct_stores true d v fcb b
transfer_stores ReadSeveral p d v fcb b = []
transfer_stores WriteSeveral p d v fcb b = several_stores d v fcb b p

-- every call; one that changes nothing on the volume stores nothing
unfoldable pub call_stores : Call → ℕ → Drive → List ℕ → List ℕ → List ℕ → List Store
call_stores LogIn p d v fcb b = []
call_stores Open p d v fcb b = []
call_stores Close p d v fcb b = []
call_stores SearchFirst p d v fcb b = []
call_stores SearchNext p d v fcb b = []
call_stores Delete p d v fcb b = delete_stores d v fcb
call_stores Make p d v fcb b = make_stores d v fcb
call_stores Rename p d v fcb b = rename_stores d v fcb
call_stores Protect p d v fcb b = []
call_stores Attributes p d v fcb b = attributes_stores d v fcb
call_stores User p d v fcb b = []
call_stores Size p d v fcb b = []
call_stores SetRandom p d v fcb b = []
call_stores (Moves t) p d v fcb b = transfer_stores t p d v fcb b
call_stores Unserved p d v fcb b = []

-- of a call as it comes to the door
abbrev pub stores_of : Asked → Drive → List ℕ → List Store
stores_of c d v = call_stores (call_of c.function) c.parameter d v c.fcb c.buffer

-- "a cut the volume it leaves": the first k of them laid down
abbrev pub cut_volume : Geometry → Asked → Drive → List ℕ → ℕ → List ℕ
cut_volume g c d v k = cut g v k (stores_of c d v)

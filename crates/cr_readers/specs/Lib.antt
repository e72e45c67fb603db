-- What contracts cite: the steps, the cursor and what reads at it.
pub mod Reader
pub mod Lists
pub mod Cursor
pub mod Reads
-- The readers, a file a level of the grammar.
pub mod Goes
pub mod Words
pub mod Operand
pub mod Types
pub mod Bodies
pub mod Primaries
pub mod Compounds
pub mod Links
pub mod Operations
pub mod Statements
pub mod Declarations
pub mod Descent

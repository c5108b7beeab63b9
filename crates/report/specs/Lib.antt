-- The window program's text: a quoted text, how a line is printed, what writing leaves in a buffer, what each line says, and the lines as
-- document 01 quotes them.
pub mod Text
pub mod Printed
pub mod Written
pub mod Program
pub mod Quoted
pub mod Sizes

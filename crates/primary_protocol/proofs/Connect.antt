-- A primary opens its end, and takes the hello of its peer, with which the stream begins.
pub mod Greeting
pub mod Hello
pub mod Opens
pub mod StreamBegins
